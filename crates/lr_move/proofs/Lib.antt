mod Ending
mod Examples
pub mod LettingGo
mod SettingOut
mod Sparing
mod Waits
