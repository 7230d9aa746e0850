mod CanCall
mod CanCopy
mod CanSetAside
