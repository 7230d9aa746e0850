-- Of what is steady, each part.
use Rattle.lr_rules.specs.declared.rule.Way.{Way}
use Rattle.lr_rules.specs.declared.rule.Way.TheVariants.{Rename}
use Rattle.lr_host.specs.declared.entry.Entry.{Entry}
use Rattle.lr_host.specs.World.{Past, Opens, ◌▸◌}
use Rattle.lr_host.specs.Told.{Made, at_first, by_writer, by_tool}
use Rattle.std.proofs.Common.{List}
use Rattle.lr_host.specs.Sets.{LogSet}
use Rattle.lr_host.specs.Steady.{IsSteadyBy, IsSteadyAtBy, IsSteady, NoneAttached}

-- ---- for logs that are rotated in any one way

pub steady_before_by : (way : Way) (s : LogSet) (p q : Past) (es : List Entry) → Made p es q → IsSteadyBy way s q → IsSteadyBy way s p
steady_before_by way s p _ _ at_first st = st
steady_before_by way s p _ es (by_writer {q = q} m i f) st = steady_before_by way s p q es m st.0
steady_before_by way s p _ _ (by_tool {es = es} {q = q} m i f) st = steady_before_by way s p q es m st.0

pub steady_at_by : (way : Way) (s : LogSet) (p q : Past) (e : Entry) (es : List Entry) → Made (p ▸ e) es q → IsSteadyBy way s q → IsSteadyAtBy way s q
steady_at_by way s p _ e _ at_first st = st.1
steady_at_by way s p _ e es (by_writer m i f) st = st.1
steady_at_by way s p _ e _ (by_tool m i f) st = st.1

-- where a set is steady, no member was attached
pub none_attached_by : (way : Way) (s : LogSet) (q : Past) → IsSteadyBy way s q → NoneAttached s q
none_attached_by way s (Opens o) st = tt
none_attached_by way s (p ▸ e) st = (none_attached_by way s p st.0, st.2)

-- ---- for logs that are rotated by rename

pub steady_before : (s : LogSet) (p q : Past) (es : List Entry) → Made p es q → IsSteady s q → IsSteady s p
steady_before s p q es m st = steady_before_by Rename s p q es m st

pub none_attached : (s : LogSet) (q : Past) → IsSteady s q → NoneAttached s q
none_attached s q st = none_attached_by Rename s q st
