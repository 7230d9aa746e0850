-- The fields of a definition: what the last line that sets a field sets it to, or its default.
use Rattle.std.specs.Prelude.{ℕ, Bool, true, false, List, [], ◌∷◌, Option, Some, None, if◌then◌else◌}
use Rattle.std.specs.List.{list_any, filter_map}
use Rattle.lr_rules.specs.declared.fault.Phase.TheVariants as phase
use Rattle.lr_rules.specs.declared.rule.Back.{Back}
use Rattle.lr_rules.specs.declared.rule.Back.TheVariants as back
use Rattle.lr_rules.specs.declared.rule.Criterion.{Criterion}
use Rattle.lr_rules.specs.declared.rule.Criterion.TheVariants as criterion
use Rattle.lr_rules.specs.declared.rule.Count.{Count}
use Rattle.lr_rules.specs.declared.rule.Count.TheVariants as count
use Rattle.lr_rules.specs.declared.rule.Make.{Make}
use Rattle.lr_rules.specs.declared.rule.Make.TheVariants as make
use Rattle.lr_rules.specs.declared.rule.Piece.{Piece}
use Rattle.lr_rules.specs.declared.rule.Way.{Way}
use Rattle.lr_rules.specs.declared.rule.Way.TheVariants as way
use Rattle.lr_forms.specs.declared.set.Set.{Set}
use Rattle.lr_forms.specs.declared.set.Set.TheVariants as set
use Rattle.lr_conf.specs.declared.fields.Fields.{Fields}

-- ---- what a setting sets, field by field

abbrev pub criterion_set : Set → Option Criterion
criterion_set (set.Criterion c) = Some c
criterion_set s = None

abbrev pub count_set : Set → Option Count
count_set (set.Count n) = Some n
count_set s = None

abbrev pub maxage_set : Set → Option (Option ℕ)
maxage_set (set.MaxAge n) = Some (Some n)
maxage_set s = None

abbrev pub minage_set : Set → Option (Option ℕ)
minage_set (set.MinAge n) = Some (Some n)
minage_set s = None

abbrev pub minsize_set : Set → Option (Option ℕ)
minsize_set (set.MinSize n) = Some (Some n)
minsize_set s = None

abbrev pub maxsize_set : Set → Option (Option ℕ)
maxsize_set (set.MaxSize n) = Some (Some n)
maxsize_set s = None

abbrev pub ifempty_set : Set → Option Bool
ifempty_set (set.IfEmpty b) = Some b
ifempty_set s = None

abbrev pub missingok_set : Set → Option Bool
missingok_set (set.MissingOk b) = Some b
missingok_set s = None

abbrev pub ignore_set : Set → Option Bool
ignore_set set.IgnoreDuplicates = Some true
ignore_set s = None

abbrev pub start_set : Set → Option ℕ
start_set (set.Start n) = Some n
start_set s = None

abbrev pub extension_set : Set → Option (Option (List ℕ))
extension_set (set.Extension ending) = Some (Some ending)
extension_set s = None

abbrev pub addextension_set : Set → Option (Option (List ℕ))
addextension_set (set.AddExtension ending) = Some (Some ending)
addextension_set s = None

abbrev pub olddir_set : Set → Option (Option (List ℕ))
olddir_set (set.Olddir dir) = Some dir
olddir_set s = None

abbrev pub createolddir_set : Set → Option Make
createolddir_set (set.CreateOlddir m) = Some m
createolddir_set s = None

abbrev pub create_set : Set → Option Make
create_set (set.Create m) = Some m
create_set s = None

abbrev pub mail_set : Set → Option (Option (List ℕ))
mail_set (set.Mail address) = Some address
mail_set s = None

abbrev pub mailfirst_set : Set → Option Bool
mailfirst_set (set.MailFirst b) = Some b
mailfirst_set s = None

abbrev pub shared_set : Set → Option Bool
shared_set (set.Shared b) = Some b
shared_set s = None

abbrev pub first_set : Set → Option (Option (List ℕ))
first_set (set.Script phase.First text) = Some (Some text)
first_set s = None

abbrev pub pre_set : Set → Option (Option (List ℕ))
pre_set (set.Script phase.Pre text) = Some (Some text)
pre_set s = None

abbrev pub post_set : Set → Option (Option (List ℕ))
post_set (set.Script phase.Post text) = Some (Some text)
post_set s = None

abbrev pub last_script_set : Set → Option (Option (List ℕ))
last_script_set (set.Script phase.Last text) = Some (Some text)
last_script_set s = None

abbrev pub preremove_set : Set → Option (Option (List ℕ))
preremove_set (set.Script phase.Preremove text) = Some (Some text)
preremove_set s = None

abbrev pub dated_set : Set → Option Bool
dated_set (set.Dated b) = Some b
dated_set s = None

abbrev pub pieces_set : Set → Option (Option (List Piece))
pieces_set (set.DateFormat pieces) = Some (Some pieces)
pieces_set s = None

abbrev pub back_set : Set → Option Back
back_set (set.Back b) = Some b
back_set s = None

abbrev pub serial_set : Set → Option Bool
serial_set (set.Serial b) = Some b
serial_set s = None

-- ---- the last of them

abbrev pub last_or : {A : Type 0} → A → List A → A
last_or default [] = default
last_or default (x ∷ xs) = last_or x xs

-- the value that the last of the settings sets, or else the default
abbrev pub last_set : {A : Type 0} → (Set → Option A) → A → List Set → A
last_set sets default settings = last_or default (filter_map sets settings)

-- ---- the way, which is one field: `nocopy` and `nocopytruncate` set it back where it is theirs alone

abbrev pub names_way : Set → Bool
names_way (set.Way w) = true
names_way s = false

abbrev pub unsets_way : Way → Set → Bool
unsets_way way.Copy (set.NotWay way.Copy) = true
unsets_way way.CopyTruncate (set.NotWay way.CopyTruncate) = true
unsets_way way.RenameCopy (set.NotWay way.RenameCopy) = true
unsets_way w s = false

-- the way of the last setting that names one, unless one behind it undoes that way
abbrev pub last_way : List Set → Way
last_way [] = way.Rename
last_way (set.Way w ∷ more) =
    if list_any names_way more then last_way more
    else if list_any (unsets_way w) more then way.Rename
    else w
last_way (s ∷ more) = last_way more

-- ---- all fields

-- Those of the rule stand in one, which so far has no words, no line and no stamp, and `/` in the place of its file.
abbrev pub fields_of : List Set → Fields
fields_of settings = record {
  rule = record {
    file = 47 ∷ [];
    line = 0;
    words = [];
    criterion = last_set criterion_set (criterion.Size 1048576) settings;
    count = last_set count_set (count.Keep 0) settings;
    maxage = last_set maxage_set None settings;
    minage = last_set minage_set None settings;
    minsize = last_set minsize_set None settings;
    maxsize = last_set maxsize_set None settings;
    ifempty = last_set ifempty_set true settings;
    missingok = last_set missingok_set false settings;
    ignore_duplicates = last_set ignore_set false settings;
    start = last_set start_set 1 settings;
    extension = last_set extension_set None settings;
    addextension = last_set addextension_set None settings;
    olddir = last_set olddir_set None settings;
    createolddir = last_set createolddir_set make.No settings;
    way = last_way settings;
    create = last_set create_set make.No settings;
    mail = last_set mail_set None settings;
    mailfirst = last_set mailfirst_set false settings;
    shared = last_set shared_set false settings;
    scripts = record {
      first = last_set first_set None settings;
      pre = last_set pre_set None settings;
      post = last_set post_set None settings;
      last = last_set last_script_set None settings;
      preremove = last_set preremove_set None settings;
    };
    dated = None;
  };
  dated = last_set dated_set false settings;
  pieces = last_set pieces_set None settings;
  back = last_set back_set back.Now settings;
  serial = last_set serial_set false settings;
}
