-- Parts that end for want of memory.
use Rattle.std.proofs.Common.{◌≡◌, sym, ◌∙◌, ap, List, ◌∷◌, ◌++◌, append-nil}
use Rattle.lr_plan.specs.declared.mark.Mark.{Mark}
use Rattle.lr_rules.specs.declared.fault.Fault.{Fault}
use Rattle.lr_host.specs.declared.entry.Entry.{Entry}
use Rattle.lr_plan.specs.declared.step.Step.{Step}
use Rattle.lr_plan.specs.Course.{Part, Nothing, Course, Unbroken, Every}
use Rattle.lr_plan.specs.Cut.{IsProgram, CourseCut, ListCut}
use Rattle.lr_plan.proofs.Courses.{part_as, both_of}

pub then_nothing : (P : Part) (t t' : List Mark) (f f' : List Fault) (ts ts' : List Entry) → P t f ts → Nothing t' f' ts' → P (t ++ t') (f ++ f') (ts ++ ts')
then_nothing P t t' f f' ts ts' p n = part_as P (sym (ap (λ x. t ++ x) n.0 ∙ append-nil t)) (sym (ap (λ x. f ++ x) n.1 ∙ append-nil f)) (sym (ap (λ x. ts ++ x) n.2 ∙ append-nil ts)) p

pub course_cut : (made rest steps : List Step) (x : Step) (t t' : List Mark) (f f' : List Fault) (ts ts' : List Entry) → steps ≡ made ++ x ∷ rest → IsProgram x → Unbroken (Course made) t f ts → Nothing t' f' ts' → CourseCut steps (t ++ t') (f ++ f') (ts ++ ts')
course_cut made rest steps x t t' f f' ts ts' e p w n = record { made = made; next = x; rest = rest; steps_are = e; program = p; part = then_nothing (Unbroken (Course made)) t t' f f' ts ts' w n }

pub list_cut : {A : Type 0} (P Q : A → Part) (done rest list : List A) (x : A) (t t' : List Mark) (f f' : List Fault) (ts ts' : List Entry) → list ≡ done ++ x ∷ rest → Every P done t f ts → Q x t' f' ts' → ListCut P Q list (t ++ t') (f ++ f') (ts ++ ts')
list_cut P Q done rest list x t t' f f' ts ts' e p q = record { done = done; next = x; rest = rest; list_is = e; part = both_of (Every P done) (Q x) t t' f f' ts ts' p q }
