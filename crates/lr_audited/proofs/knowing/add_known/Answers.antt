use Rattle.std.proofs.Common.{◌≡◌, ℕ, List, Some, cond, length, sym, ap, ◌∙◌, subst, rules}
use Rattle.std.specs.Str.{bytes_eq}
use Rattle.lr_kept.specs.Begun.{Found, place_in}
use Rattle.lr_kept.proofs.Places.{place_inserted}
use Rattle.lr_audited.specs.declared.line.Line.{Line}
use Rattle.lr_audited.specs.InternalKnown.{ArePlaces}
use Rattle.lr_audited.proofs.Placing.{places_more}
use Rattle.lr_audited.proofs.knowing.add_known.Goals as goal

pub returns-clause-indexed : goal.returns-clause-indexed
returns-clause-indexed c =
    let key = c.in_ok-key.ensures.items_if_clones_equal (λ x y e. e) ∙ c.bytes.ensures.bytes in
    let count : c.len-place.result ≡ length c.args.known.now.lines.items = search rules in
    subst (λ (ls : List Line). ArePlaces ls (place_in c.insert.new.self.entries)) (sym c.in_ok-push.ensures.items)
    (places_more c.args.known.now.lines.items c.args.line (place_in c.args.known.now.places.entries) (place_in c.insert.new.self.entries) c.requires
    (λ q. ap (λ (es : List Found). place_in es q) c.in_ok-insert.ensures.entries
    ∙ (place_inserted c.args.known.now.places.entries c.in_ok-key.key c.len-place.result q
    ∙ (ap (λ (k : List ℕ). cond (bytes_eq q k) (Some c.len-place.result) (place_in c.args.known.now.places.entries q)) key
    ∙ ap (λ (n : ℕ). cond (bytes_eq q c.args.line.path) (Some n) (place_in c.args.known.now.places.entries q)) count))))
