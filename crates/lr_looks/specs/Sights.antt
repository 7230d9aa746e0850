-- What the words came to.
use Rattle.std.specs.Prelude.{◌≡◌, ◌≤◌, ◌+◌, ◌-◌, ℕ, List, [], ◌∷◌, ◌++◌, length, map, take, Result, Ok, Err, if◌then◌else◌}
use Rattle.lr_rules.specs.declared.fault.Fault.{Fault}
use Rattle.lr_rules.specs.declared.fault.Fault.TheVariants as fault
use Rattle.lr_host.specs.declared.entry.Entry.{Entry}
use Rattle.lr_host.specs.Told.{Then}
use Rattle.lr_glob.specs.declared.found.Found.{Found as Match}
use Rattle.lr_glob.specs.declared.found.GlobStop.{GlobStop}
use Rattle.lr_glob.specs.declared.found.GlobStop.TheVariants as stop
use Rattle.lr_glob.specs.Words.{Comes, Stopped}
use Rattle.lr_looks.specs.Asked.{AskedWord, log_at}
use Rattle.lr_looks.specs.Found.{FoundLog}

-- What a word came to: all that it gives, or why it gives nothing.
abbrev pub WordSight : Type 0
WordSight = Result (List Match) GlobStop

-- the logs that it gives
abbrev pub found_at : AskedWord → Match → FoundLog
found_at w m = record { log = log_at w m.path; seen = m.seen }

abbrev pub found_by : AskedWord → WordSight → List FoundLog
found_by w (Ok found) = map (found_at w) found
found_by w (Err why) = []

-- the fault of a word that gives nothing; there is none where the definition's logs may be missing
abbrev pub missing : AskedWord → List Fault
missing w = if w.rule.missingok then [] else fault.Missing w.text ∷ []

-- a call failed, at this path; or the word's logs are passed over
abbrev pub glob_fault : AskedWord → GlobStop → List Fault
glob_fault w (stop.Call kind path) = fault.Call kind path ∷ []
glob_fault w stop.LongName = fault.LongName w.text ∷ []
glob_fault w stop.TooMany = fault.TooMany w.text ∷ []
glob_fault w stop.Memory = []

abbrev pub sight_faults : AskedWord → WordSight → List Fault
sight_faults w (Ok []) = missing w
sight_faults w (Ok (m ∷ ms)) = []
sight_faults w (Err why) = glob_fault w why

-- ---- all words

abbrev pub found_of : List AskedWord → List WordSight → List FoundLog
found_of (w ∷ ws) (s ∷ ss) = found_by w s ++ found_of ws ss
found_of _ _ = []

abbrev pub all_sight_faults : List AskedWord → List WordSight → List Fault
all_sight_faults (w ∷ ws) (s ∷ ss) = sight_faults w s ++ all_sight_faults ws ss
all_sight_faults _ _ = []

-- ---- looks and listings

-- those of a word, where there is room for so many logs
abbrev pub ShowsWord : AskedWord → ℕ → WordSight → List Entry → Type 0
ShowsWord w room (Ok found) ts = Comes w.text room (Ok found) ts
ShowsWord w room (Err why) ts = Stopped w.text room why ts

-- The same of each word, in order. A run finds 16,384 logs at most: the room of a word is what those that were found before it
-- leave of this number.
abbrev pub ShowWords : ℕ → List AskedWord → List WordSight → List Entry → Type 0
ShowWords before [] [] ts = ts ≡ []
ShowWords before (w ∷ ws) (s ∷ ss) ts = Then (ShowsWord w (16_384 - before) s) (ShowWords (before + length (found_by w s)) ws ss) ts
ShowWords before _ _ ts = ⊥

-- it wasn't cut off by want of memory
abbrev pub WordHadMemory : WordSight → Type 0
WordHadMemory (Err stop.Memory) = ⊥
WordHadMemory _ = Unit {0}

abbrev pub WordsHadMemory : List WordSight → Type 0
WordsHadMemory [] = Unit {0}
WordsHadMemory (s ∷ ss) = WordHadMemory s × WordsHadMemory ss

-- Some sights found these logs.
pub record AreFoundOf (words : List AskedWord) (found : List FoundLog) : Type 0 where
  pub sights : List WordSight
  pub found_are : found ≡ found_of words sights

-- These words came to some sights, one for each: the faults and the logs that were added are theirs.
pub record LookedAtWords (words : List AskedWord) (faults all_faults : List Fault) (found all_found : List FoundLog)
    (ts : List Entry) : Type 0 where
  pub sights : List WordSight
  pub had_memory : WordsHadMemory sights
  pub shown : ShowWords (length found) words sights ts
  pub faults_are : all_faults ≡ faults ++ all_sight_faults words sights
  pub found_are : all_found ≡ found ++ found_of words sights

-- Where there was no memory, the first of them were looked at, the last maybe in part; so many logs were found before.
pub record LookedAtSomeWords (before : ℕ) (words : List AskedWord) (ts : List Entry) : Type 0 where
  pub sights : List WordSight
  pub few : length sights ≤ length words
  pub shown : ShowWords before (take (length sights) words) sights ts
