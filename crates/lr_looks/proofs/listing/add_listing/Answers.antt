use Rattle.std.proofs.Common.{◌≡◌, ℕ, List, Some, cond, length, sym, ap, ◌∙◌, subst, rules}
use Rattle.std.specs.Str.{bytes_eq}
use Rattle.lr_family.specs.declared.listing.Listing.{Listing}
use Rattle.lr_kept.specs.Begun.{Found, place_in}
use Rattle.lr_kept.proofs.Places.{place_inserted}
use Rattle.lr_looks.specs.Internal.{ArePlaces}
use Rattle.lr_looks.proofs.Known.{places_more}
use Rattle.lr_looks.proofs.listing.add_listing.Goals as goal

pub returns-clause-known : goal.returns-clause-known
returns-clause-known c =
    let key = c.in_ok-key.ensures.items_if_clones_equal (λ x y e. e) ∙ (c.bytes.ensures.bytes ∙ c.dir.ensures) in
    let count : c.len-place.result ≡ length c.args.listings.now.taken.items = search rules in
    subst (λ (ls : List Listing). ArePlaces ls (place_in c.insert.new.self.entries)) (sym c.in_ok-push.ensures.items)
    (places_more c.args.listings.now.taken.items c.args.listing (place_in c.args.listings.now.places.entries) (place_in c.insert.new.self.entries) c.requires.known
    (λ q. ap (λ (es : List Found). place_in es q) c.in_ok-insert.ensures.entries
    ∙ (place_inserted c.args.listings.now.places.entries c.in_ok-key.key c.len-place.result q
    ∙ (ap (λ (k : List ℕ). cond (bytes_eq q k) (Some c.len-place.result) (place_in c.args.listings.now.places.entries q)) key
    ∙ ap (λ (n : ℕ). cond (bytes_eq q c.args.listing.dir) (Some n) (place_in c.args.listings.now.places.entries q)) count))))
