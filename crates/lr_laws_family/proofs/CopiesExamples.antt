-- A log that is copied, in order and not.
use Rattle.std.proofs.Common.{◌≡◌, ⊎_elim, inl, ℕ, refl, subst, arith, List, [], ◌∷◌, length, reverse, codes, None}
use Rattle.lr_host.specs.declared.thing.Thing.TheVariants as thing
use Rattle.lr_host.specs.declared.entry.Entry.{Entry}
use Rattle.lr_host.specs.declared.entry.Entry.TheVariants as entry
use Rattle.lr_host.specs.Fits.{Fits}
use Rattle.lr_host.specs.Opening.{IsJournal}
use Rattle.lr_host.specs.Quiet.{from_here, further}
use Rattle.lr_host.specs.Safe.{whole as all_of}
use Rattle.lr_host.specs.Told.{Made, at_first, by_tool}
use Rattle.lr_host.specs.World.{◌▸◌, world}
use Rattle.lr_laws.specs.Chain.{log, third}
use Rattle.lr_laws.proofs.Example.{found_valid}
use Rattle.lr_laws.proofs.Lists.{prefix_last}
use Rattle.lr_copy.specs.Bytes.{none_read, read_more, took_more}
use Rattle.lr_copy.specs.Copying.{opening, naming}
use Rattle.lr_copy.specs.Fits.{ArePaths}
use Rattle.lr_laws.proofs.DurableExamples.{other, start}
use Rattle.lr_laws_family.specs.Whole.{Named, WritersSpareCopy, Has, IsCopyWhole}
use Rattle.lr_laws_family.specs.CopiesWorked.{part, job, filled, in_order, name_pending, bytes_pending, fed_since, read_on}
use Rattle.lr_laws_family.proofs.Named.{whole}

-- ---- the entries fit

filled_journal : IsJournal filled
filled_journal = ((((found_valid, (refl, refl)), record { part = refl; ended = λ e. absurd (cc) }), (3, refl)), record { part = refl; ended = λ e. omega arith })

pub name_journal : IsJournal name_pending
name_journal = ((filled_journal, (3, refl)), ((3, refl), λ e. cc, λ e. cc, refl, other part third refl))

pub bytes_journal : IsJournal bytes_pending
bytes_journal = ((filled_journal, ((3, refl), λ e. cc, λ e. cc, refl, other part third refl)), refl)

-- ---- in order

pub paths : ArePaths job
paths = record { part_apart = other part log refl; to_apart = other third log refl; part_not_to = other part third refl; dir_is = refl; part_in = refl }

abbrev pub entries : List Entry
entries = entry.SyncsDir (codes "/v") ∷ entry.Renames part third ∷ entry.SyncsFile part ∷ entry.Reads log 1 [] ∷ entry.Appends part (codes "C") ∷ entry.Reads log 0 (codes "C") ∷ entry.Makes part None ∷ []

pub made : Made start entries in_order
made = by_tool (by_tool (by_tool (by_tool (by_tool (by_tool (by_tool at_first tt filled_journal.0.0.0.1) tt filled_journal.0.0.1) tt filled_journal.0.1) tt filled_journal.1) tt name_journal.0.1) tt name_journal.1) tt refl

spare : WritersSpareCopy job start in_order
spare = further (further (further (further (further (further (further from_here tt) tt) tt) tt) tt) tt) tt

pub named : Named job 1 (reverse entries)
named = record {
  front = opening job;
  back = entry.Reads log 0 (codes "C") ∷ entry.Appends part (codes "C") ∷ entry.Reads log 1 [] ∷ entry.SyncsFile part ∷ naming job;
  joined = refl;
  first = refl;
  second = record {
    front = entry.Reads log 0 (codes "C") ∷ entry.Appends part (codes "C") ∷ entry.Reads log 1 [] ∷ entry.SyncsFile part ∷ [];
    back = naming job;
    joined = refl;
    first = record {
      front = entry.Reads log 0 (codes "C") ∷ entry.Appends part (codes "C") ∷ entry.Reads log 1 [] ∷ [];
      back = entry.SyncsFile part ∷ [];
      joined = refl;
      first = record {
        bytes = codes "C";
        count_is = refl;
        within = omega arith;
        entries = record {
          front = entry.Reads log 0 (codes "C") ∷ entry.Appends part (codes "C") ∷ [];
          back = entry.Reads log 1 [] ∷ [];
          joined = refl;
          first = took_more (codes "C") [] (read_more none_read (codes "C") (λ e. cc) (omega arith));
          second = refl;
        };
      };
      second = refl;
    };
    second = refl;
  };
}

pub in_order_whole : IsCopyWhole log third start in_order
in_order_whole = whole job 1 start in_order entries made found_valid paths spare named

-- ---- the other two

pub name_lost : IsCopyWhole log third start name_pending → ⊥
name_lost h = let is : thing.Nothing ≡ thing.File h.copy = (h.cut (entry.Cut [] []) tt fits).named in cc
  where
    fits : Fits (world name_pending) (entry.Cut [] [])
    fits = record { places = omega arith; closed = ((tt, λ l. absurd (cc)), λ l. absurd (cc)); apart = tt; within = tt }

pub bytes_lost : IsCopyWhole log third start bytes_pending → ⊥
bytes_lost h = go h.copy h.bytes h.copied (h.cut (entry.Cut [] ((3, 0) ∷ [])) tt fits)
  where
    fits : Fits (world bytes_pending) (entry.Cut [] ((3, 0) ∷ []))
    fits = record { places = omega arith; closed = tt; apart = (refl, tt); within = ((third, refl), omega arith, omega arith, tt) }

    go : (f : ℕ) (bytes : List ℕ) → Has third f bytes bytes_pending → Has third f bytes (bytes_pending ▸ entry.Cut [] ((3, 0) ∷ [])) → ⊥
    go f bytes a b =
        let is : thing.File 3 ≡ thing.File f = a.named in
        let three : f ≡ 3 = cc in
        let full : codes "C" ≡ bytes = subst (λ (g : ℕ). ((world bytes_pending).files g).bytes ≡ bytes) three a.bytes_are in
        let none : [] ≡ bytes = subst (λ (g : ℕ). ((world (bytes_pending ▸ entry.Cut [] ((3, 0) ∷ []))).files g).bytes ≡ bytes) three b.bytes_are in
        cc

-- ---- read on

pub read_on_journal : IsJournal read_on
read_on_journal = ((((name_journal, refl), (inl (0, refl), refl)), (0, refl)), record { part = refl; ended = λ e. absurd (cc) })

pub read_on_lost : IsCopyWhole log third start read_on → ⊥
read_on_lost h = ⊎_elim last_one (λ i. h.unread fed_since 1 (codes "D") i all_of) (prefix_last (h.last ▸ entry.Reads log (length h.bytes) []) read_on fed_since (entry.Reads log 1 (codes "D")) h.read refl)
  where
    last_one : h.last ▸ entry.Reads log (length h.bytes) [] ≡ fed_since ▸ entry.Reads log 1 (codes "D") → ⊥
    last_one e = cc
