-- Lines outside definitions that let go of pending names.
use Rattle.std.proofs.Common.{◌≡◌, ℕ, Bool, List, [], ◌∷◌, ◌++◌, Option, Some, None, Result, refl, sym, ap, ◌∙◌, subst}
use Rattle.std.proofs.lemmas.List.{append-nil}
use Rattle.lr_rules.specs.declared.path.Path.{Path}
use Rattle.lr_rules.specs.declared.fault.ConfKind.{ConfKind}
use Rattle.lr_rules.specs.declared.fault.ConfKind.TheVariants as kind
use Rattle.lr_rules.specs.declared.fault.Fault.{Fault}
use Rattle.lr_rules.specs.declared.fault.Phase.{Phase}
use Rattle.lr_forms.specs.declared.set.Set.{Set}
use Rattle.lr_forms.specs.declared.said.LineSaid.TheVariants as says
use Rattle.lr_words.specs.declared.taboo.TabooItems.{TabooItems}
use Rattle.lr_conf.specs.declared.draft.Draft.{Draft}
use Rattle.lr_conf.specs.declared.fields.Fields.{Fields}
use Rattle.lr_conf.specs.declared.stop.Include.{Include}
use Rattle.lr_conf.specs.declared.stop.LayerStop.{LayerStop}
use Rattle.lr_conf.specs.Meaning.{OutsideLine, stands, conf, at_line, stray_at}
use Rattle.lr_conf.specs.Setting.{with_set}
use Rattle.lr_conf.specs.Internal.Draft.{Spoke, Speaks, Settled, Noticed, Banned, answer_of, asking_answer, state_of, stray_kind, turned, without_names}

abbrev own_faults : Path → ℕ → Option ConfKind → List Fault
own_faults file at None = []
own_faults file at (Some k) = conf file k at ∷ []

answered : (old new : Draft) (file : Path) (p : OutsideLine) (at : ℕ) (first : Option ℕ) (own : Option ConfKind)
    → Spoke old new file p (at_line file kind.NoBrace first ++ own_faults file at own) [] → Speaks old new file p (answer_of first at own)
answered old new file p at None None s = s
answered old new file p at None (Some k) s = s
answered old new file p at (Some n) None s = s
answered old new file p at (Some n) (Some k) s = s

by_answer : (old new : Draft) (file : Path) (p : OutsideLine) (at : ℕ) (own : Option ConfKind) (r : Result (Option Include) LayerStop) → r ≡ answer_of old.first at own
    → Spoke old new file p (at_line file kind.NoBrace old.first ++ own_faults file at own) [] → Speaks old new file p r
by_answer old new file p at own r e s = subst (Speaks old new file p) (sym e) (answered old new file p at old.first own s)

asked : (old new : Draft) (file : Path) (p : OutsideLine) (first : Option ℕ) (i : Include) → Spoke old new file p (at_line file kind.NoBrace first ++ []) (i ∷ []) → Speaks old new file p (asking_answer first i)
asked old new file p None i s = s
asked old new file p (Some n) i s = s

pub bad : (old new : Draft) (file : Path) (at : ℕ) (brace : Bool) (k : ConfKind) (r : Result (Option Include) LayerStop)
    → r ≡ answer_of old.first at (Some k) → Settled old new brace → Speaks old new file (stands at brace (says.Bad k)) r
bad old new file at brace k r e s =
    by_answer old new file (stands at brace (says.Bad k)) at (Some k) r e
    (record {
      state = s.state;
      rules = s.rest.rules;
      notices = s.rest.notices ∙ sym (append-nil old.notices.items);
      faults_are = refl;
      files = s.rest.table.files;
      includes_are = refl;
      taboo = s.rest.table.taboo;
    })

pub quiet : (old new : Draft) (file : Path) (at : ℕ) (brace : Bool) (r : Result (Option Include) LayerStop)
    → r ≡ answer_of old.first at None → Settled old new brace → Speaks old new file (stands at brace says.Quiet) r
quiet old new file at brace r e s =
    by_answer old new file (stands at brace says.Quiet) at None r e
    (record {
      state = s.state;
      rules = s.rest.rules;
      notices = s.rest.notices ∙ sym (append-nil old.notices.items);
      faults_are = refl;
      files = s.rest.table.files;
      includes_are = refl;
      taboo = s.rest.table.taboo;
    })

pub script : (old new : Draft) (file : Path) (at : ℕ) (brace : Bool) (phase : Phase) (text : List ℕ) (stray : Bool) (r : Result (Option Include) LayerStop)
    → r ≡ answer_of old.first at None → Settled old new brace → Speaks old new file (stands at brace (says.Script phase text stray)) r
script old new file at brace phase text stray r e s =
    by_answer old new file (stands at brace (says.Script phase text stray)) at None r e
    (record {
      state = s.state;
      rules = s.rest.rules;
      notices = s.rest.notices ∙ sym (append-nil old.notices.items);
      faults_are = refl;
      files = s.rest.table.files;
      includes_are = refl;
      taboo = s.rest.table.taboo;
    })

strays : (file : Path) (at : ℕ) (first : Option ℕ) → stray_at file first at ≡ own_faults file at (stray_kind first)
strays file at None = refl
strays file at (Some n) = refl

pub close : (old new : Draft) (file : Path) (at : ℕ) (brace : Bool) (own : Option ConfKind) (r : Result (Option Include) LayerStop)
    → r ≡ answer_of old.first at own → own ≡ stray_kind old.first → Settled old new brace → Speaks old new file (stands at brace says.Close) r
close old new file at brace own r e k s =
    by_answer old new file (stands at brace says.Close) at own r e
    (record {
      state = s.state;
      rules = s.rest.rules;
      notices = s.rest.notices ∙ sym (append-nil old.notices.items);
      faults_are = ap (λ o. at_line file kind.NoBrace old.first ++ o) (strays file at old.first ∙ ap (own_faults file at) (sym k));
      files = s.rest.table.files;
      includes_are = refl;
      taboo = s.rest.table.taboo;
    })

pub include : (old new : Draft) (file : Path) (at : ℕ) (brace : Bool) (path : List ℕ) (f : Option ℕ) (r : Result (Option Include) LayerStop)
    → r ≡ asking_answer f (record { path = path; line = at }) → f ≡ old.first → Settled old new brace → Speaks old new file (stands at brace (says.Include path)) r
include old new file at brace path f r e is s =
    let i : Include = record { path = path; line = at } in
    subst (Speaks old new file (stands at brace (says.Include path))) (sym (e ∙ ap (λ o. asking_answer o i) is))
    (asked old new file (stands at brace (says.Include path)) old.first i
    (record {
      state = s.state;
      rules = s.rest.rules;
      notices = s.rest.notices ∙ sym (append-nil old.notices.items);
      faults_are = refl;
      files = s.rest.table.files;
      includes_are = refl;
      taboo = s.rest.table.taboo;
    }))

pub sets : (old new : Draft) (file : Path) (at : ℕ) (brace : Bool) (v : Set) (defaults : Fields) (r : Result (Option Include) LayerStop) → defaults ≡ with_set old.defaults v
    → r ≡ answer_of old.first at None → Settled (record old { defaults = defaults }) new brace → Speaks old new file (stands at brace (says.Sets v)) r
sets old new file at brace v defaults r d e s =
    by_answer old new file (stands at brace (says.Sets v)) at None r e
    (record {
      state = s.state ∙ ap (λ d. turned brace None (without_names (state_of (record old { defaults = d })))) d;
      rules = s.rest.rules;
      notices = s.rest.notices ∙ sym (append-nil old.notices.items);
      faults_are = refl;
      files = s.rest.table.files;
      includes_are = refl;
      taboo = s.rest.table.taboo;
    })

pub passed : (old mid new : Draft) (file : Path) (at : ℕ) (brace : Bool) (word : List ℕ) (r : Result (Option Include) LayerStop)
    → Noticed old mid (record { file = file; line = at; word = Some word }) → r ≡ answer_of mid.first at None → Settled mid new brace → Speaks old new file (stands at brace (says.Passed word)) r
passed old mid new file at brace word r n e s =
    by_answer old new file (stands at brace (says.Passed word)) at None r (e ∙ ap (λ t. answer_of t.first at None) n.state)
    (record {
      state = s.state ∙ ap (λ t. turned brace None (without_names t)) n.state;
      rules = s.rest.rules ∙ n.rules;
      notices = s.rest.notices ∙ n.notices;
      faults_are = refl;
      files = s.rest.table.files ∙ n.table.files;
      includes_are = refl;
      taboo = s.rest.table.taboo ∙ n.table.taboo;
    })

pub owner : (old mid new : Draft) (file : Path) (at : ℕ) (brace : Bool) (v : Set) (defaults : Fields) (r : Result (Option Include) LayerStop)
    → Noticed old mid (record { file = file; line = at; word = None }) → defaults ≡ with_set mid.defaults v
    → r ≡ answer_of mid.first at None → Settled (record mid { defaults = defaults }) new brace → Speaks old new file (stands at brace (says.OwnerPassed v)) r
owner old mid new file at brace v defaults r n d e s =
    by_answer old new file (stands at brace (says.OwnerPassed v)) at None r (e ∙ ap (λ t. answer_of t.first at None) n.state)
    (record {
      state = s.state ∙ ap (λ d. turned brace None (without_names (state_of (record mid { defaults = d })))) d ∙ ap (λ t. turned brace None (without_names (record t { defaults = with_set t.defaults v }))) n.state;
      rules = s.rest.rules ∙ n.rules;
      notices = s.rest.notices ∙ n.notices;
      faults_are = refl;
      files = s.rest.table.files ∙ n.table.files;
      includes_are = refl;
      taboo = s.rest.table.taboo ∙ n.table.taboo;
    })

pub taboo : (old mid new : Draft) (file : Path) (at : ℕ) (brace : Bool) (patterns : Bool) (items : TabooItems) (r : Result (Option Include) LayerStop)
    → Banned old mid patterns items → r ≡ answer_of mid.first at None → Settled mid new brace → Speaks old new file (stands at brace (says.Taboo patterns items)) r
taboo old mid new file at brace patterns items r n e s =
    by_answer old new file (stands at brace (says.Taboo patterns items)) at None r (e ∙ ap (λ t. answer_of t.first at None) n.state)
    (record {
      state = s.state ∙ ap (λ t. turned brace None (without_names t)) n.state;
      rules = s.rest.rules ∙ n.rules;
      notices = s.rest.notices ∙ n.notices ∙ sym (append-nil old.notices.items);
      faults_are = refl;
      files = s.rest.table.files ∙ n.files;
      includes_are = refl;
      taboo = s.rest.table.taboo ∙ n.taboo;
    })
