-- Steps and parts one behind another.
use Rattle.std.proofs.Common.{◌≡◌, inl, inr, ⊎_elim, refl, sym, ◌∙◌, ap, subst, List, [], ◌∷◌, ◌++◌, append_assoc, append-nil}
use Rattle.lr_plan.specs.declared.mark.Mark.{Mark}
use Rattle.lr_rules.specs.declared.fault.Fault.{Fault}
use Rattle.lr_host.specs.declared.entry.Entry.{Entry}
use Rattle.lr_plan.specs.declared.step.Step.{Step}
use Rattle.lr_plan.specs.Outcomes.{Succeeds, marks_of}
use Rattle.lr_plan.specs.Course.{Part, Nothing, Course, StepFails, StepThen, Unbroken, BrokenOff, Both, Every}

-- the same part, by equal parts
pub part_as : (P : Part) {t t' : List Mark} {f f' : List Fault} {ts ts' : List Entry} → t ≡ t' → f ≡ f' → ts ≡ ts' → P t f ts → P t' f' ts'
part_as P {t} {t'} {f} {f'} {ts} {ts'} a b c p = subst (λ x. P x f' ts') a (subst (λ x. P t x ts') b (subst (λ x. P t f x) c p))

pub one_none : {A : Type 0} (x : A) (xs : List A) → xs ≡ x ∷ [] → xs ≡ [] → ⊥
one_none x xs a b = cc

pub nothing_then : (P : Part) (t t' : List Mark) (f f' : List Fault) (ts ts' : List Entry) → Nothing t f ts → P t' f' ts' → P (t ++ t') (f ++ f') (ts ++ ts')
nothing_then P t t' f f' ts ts' n p = part_as P (sym (ap (λ x. x ++ t') n.0)) (sym (ap (λ x. x ++ f') n.1)) (sym (ap (λ x. x ++ ts') n.2)) p

-- the first steps whole, and then the next
pub course_then : (xs ys : List Step) (t t' : List Mark) (f f' : List Fault) (ts ts' : List Entry) → Unbroken (Course xs) t f ts → Course ys t' f' ts' → Course (xs ++ ys) (t ++ t') (f ++ f') (ts ++ ts')
course_then [] ys t t' f f' ts ts' w c = nothing_then (Course ys) t t' f f' ts ts' w.1 c
course_then (x ∷ xs) ys t t' f f' ts ts' w c =
    ⊎_elim (λ s. absurd (one_none s.fault f s.told w.0)) (λ g. inr (more g (course_then xs ys g.later t' f f' g.entries.back ts' (w.0, g.entries.second) c))) w.1
  where
    more : (g : StepThen x (Course xs) t f ts) → Course (xs ++ ys) (g.later ++ t') (f ++ f') (g.entries.back ++ ts') → StepThen x (Course (xs ++ ys)) (t ++ t') (f ++ f') (ts ++ ts')
    more g further = record {
      later = g.later ++ t';
      marks_are = ap (λ x. x ++ t') g.marks_are ∙ append_assoc (marks_of x) g.later t';
      entries = record {
        front = g.entries.front;
        back = g.entries.back ++ ts';
        joined = ap (λ x. x ++ ts') g.entries.joined ∙ append_assoc g.entries.front g.entries.back ts';
        first = g.entries.first;
        second = further;
      };
    }

pub none_then_none : {A : Type 0} (xs ys : List A) → xs ≡ [] → ys ≡ [] → xs ++ ys ≡ []
none_then_none xs ys a b = ap (λ x. x ++ ys) a ∙ b

-- one step more
pub course_more : (xs : List Step) (x : Step) (t t' : List Mark) (f f' : List Fault) (ts ts' : List Entry) → Unbroken (Course xs) t f ts → t' ≡ marks_of x → f' ≡ [] → Succeeds x ts' → Unbroken (Course (xs ++ x ∷ [])) (t ++ t') (f ++ f') (ts ++ ts')
course_more xs x t t' f f' ts ts' w a b went = (
  none_then_none f f' w.0 b,
  course_then xs (x ∷ []) t t' f f' ts ts' w (inr (record {
    later = [];
    marks_are = a ∙ sym (append-nil (marks_of x));
    entries = record { front = ts'; back = []; joined = sym (append-nil ts'); first = went; second = (refl, b, refl) };
  })),
)

-- one step that fails
pub course_stops : (xs ys : List Step) (x : Step) (t t' : List Mark) (f f' : List Fault) (ts ts' : List Entry) → Unbroken (Course xs) t f ts → StepFails x t' f' ts' → BrokenOff (Course (xs ++ x ∷ ys)) (t ++ t') (f ++ f') (ts ++ ts')
course_stops xs ys x t t' f f' ts ts' w s = record { fault = s.fault; told = ap (λ y. y ++ f') w.0 ∙ s.told; part = course_then xs (x ∷ ys) t t' f f' ts ts' w (inl s) }

-- the first of a list, and then the next
pub every_then : {A : Type 0} (P : A → Part) (xs ys : List A) (t t' : List Mark) (f f' : List Fault) (ts ts' : List Entry) → Every P xs t f ts → Every P ys t' f' ts' → Every P (xs ++ ys) (t ++ t') (f ++ f') (ts ++ ts')
every_then P [] ys t t' f f' ts ts' w c = nothing_then (Every P ys) t t' f f' ts ts' w c
every_then P (x ∷ xs) ys t t' f f' ts ts' w c = record {
  first_marks = w.first_marks;
  second_marks = w.second_marks ++ t';
  marks_are = ap (λ x. x ++ t') w.marks_are ∙ append_assoc w.first_marks w.second_marks t';
  first_faults = w.first_faults;
  second_faults = w.second_faults ++ f';
  faults_are = ap (λ x. x ++ f') w.faults_are ∙ append_assoc w.first_faults w.second_faults f';
  entries = record {
    front = w.entries.front;
    back = w.entries.back ++ ts';
    joined = ap (λ x. x ++ ts') w.entries.joined ∙ append_assoc w.entries.front w.entries.back ts';
    first = w.entries.first;
    second = every_then P xs ys w.second_marks t' w.second_faults f' w.entries.back ts' w.entries.second c;
  };
}

pub both_of : (P Q : Part) (t t' : List Mark) (f f' : List Fault) (ts ts' : List Entry) → P t f ts → Q t' f' ts' → Both P Q (t ++ t') (f ++ f') (ts ++ ts')
both_of P Q t t' f f' ts ts' p q = record {
  first_marks = t;
  second_marks = t';
  marks_are = refl;
  first_faults = f;
  second_faults = f';
  faults_are = refl;
  entries = record { front = ts; back = ts'; joined = refl; first = p; second = q };
}

pub every_one : {A : Type 0} (P : A → Part) (x : A) {t : List Mark} {f : List Fault} {ts : List Entry} → P x t f ts → Every P (x ∷ []) t f ts
every_one P x {t} {f} {ts} p = part_as (Every P (x ∷ [])) (append-nil t) (append-nil f) (append-nil ts) (both_of (P x) Nothing t [] f [] ts [] p (refl, refl, refl))

-- one of the list more
pub every_more : {A : Type 0} (P : A → Part) (xs : List A) (x : A) (t t' : List Mark) (f f' : List Fault) (ts ts' : List Entry) → Every P xs t f ts → P x t' f' ts' → Every P (xs ++ x ∷ []) (t ++ t') (f ++ f') (ts ++ ts')
every_more P xs x t t' f f' ts ts' w p = every_then P xs (x ∷ []) t t' f f' ts ts' w (every_one P x p)
