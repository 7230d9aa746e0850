-- The looks at one directory show one listing alone; and listings that two runs of looks know alike.
use Rattle.std.proofs.Common.{◌≡◌, ℕ, Bool, true, false, inl, inr, ◌⊎◌, ⊎_elim, List, [], ◌∷◌, ◌++◌, Some, slice_get, refl, sym, ap, ◌∙◌, subst, append_assoc}
use Rattle.std.specs.List.Sorted.{IsPermutation}
use Rattle.std.proofs.lemmas.List.Sorted.{IsPermutation-refl, IsPermutation-sym, IsPermutation-trans}
use Rattle.lr_rules.specs.declared.path.Path.{Path}
use Rattle.lr_rules.specs.Path.{parent_of}
use Rattle.lr_rules.proofs.Heads.{heads, tails}
use Rattle.lr_host.specs.declared.entry.Entry.{Entry}
use Rattle.lr_host.specs.declared.entry.Entry.TheVariants as entry
use Rattle.lr_host.specs.Looks.{is_dir}
use Rattle.lr_host.proofs.Fronts.{front_same, names_same}
use Rattle.lr_family.specs.declared.listing.Listing.{Listing}
use Rattle.lr_family.specs.Listed.{ShowsListing, ShowsNoDir}
use Rattle.lr_kept.proofs.Elements.{read_push_cases}
use Rattle.lr_looks.specs.Families.{WasListed, WasNotListed}
use Rattle.lr_looks.proofs.Known.{none_listed}
use Rattle.lr_laws_plan.proofs.FamiliesListOnce.{listed_last, listed_more}
use Rattle.lr_laws_fixed.proofs.Peeled.{then_same, joined_same, OneLook, one_look, dir_or_not, dir_or_nothing, not_or_nothing}

-- ---- one directory

-- What the same entries say of a directory twice: whether it is there, whether its parent is, and its names in some order.
pub record OneListing (there there' parent parent' : Bool) (names names' : List (List ℕ)) (ts us vs ws : List Entry) : Type 0 where
  pub there_is : there ≡ there'
  pub parent_is : parent ≡ parent'
  pub names_are : IsPermutation names names'
  pub looks_are : ts ≡ us
  pub rest_is : vs ≡ ws

-- where both looks saw the directory, they tell the same names
both_there : (dir : Path) (parent parent' : Bool) (names names' : List (List ℕ)) (ts us vs ws : List Entry) → ShowsListing dir true parent names ts → ShowsListing dir true parent' names' us → ts ++ vs ≡ us ++ ws → OneListing true true parent parent' names names' ts us vs ws
both_there dir parent parent' names names' ts us vs ws h g e = record {
  there_is = refl;
  parent_is = h.0 ∙ sym g.0;
  names_are = IsPermutation-trans names h.1.second.listed names' (IsPermutation-sym h.1.second.listed names h.1.second.same) (subst (λ l. IsPermutation l names') (sym listed) g.1.second.same);
  looks_are = joined_same ts us h.1 g.1 look.looks_are (h.1.second.list ∙ (ap (λ x. x ∷ []) one ∙ sym g.1.second.list));
  rest_is = tails (entry.List dir h.1.second.listed) (entry.List dir g.1.second.listed) vs ws both;
}
  where
    look : OneLook h.1.first.seen g.1.first.seen h.1.front g.1.front (h.1.back ++ vs) (g.1.back ++ ws)
    look = one_look dir dir h.1.front g.1.front (h.1.back ++ vs) (g.1.back ++ ws) h.1.first g.1.first (then_same ts us vs ws h.1 g.1 e)

    both : entry.List dir h.1.second.listed ∷ vs ≡ entry.List dir g.1.second.listed ∷ ws
    both = front_same h.1.back g.1.back (entry.List dir h.1.second.listed ∷ []) (entry.List dir g.1.second.listed ∷ []) vs ws h.1.second.list g.1.second.list look.rest_is

    one : entry.List dir h.1.second.listed ≡ entry.List dir g.1.second.listed
    one = heads (entry.List dir h.1.second.listed) (entry.List dir g.1.second.listed) vs ws both

    listed : h.1.second.listed ≡ g.1.second.listed
    listed = names_same dir dir h.1.second.listed g.1.second.listed one

-- not one that saw it and one that saw nothing
there_or_gone : (dir : Path) (parent parent' : Bool) (names names' : List (List ℕ)) (ts us vs ws : List Entry) → ShowsListing dir true parent names ts → ShowsListing dir false parent' names' us → ts ++ vs ≡ us ++ ws → ⊥
there_or_gone dir parent parent' names names' ts us vs ws h g e =
    let look = one_look dir dir h.1.front g.1.front (h.1.back ++ vs) (g.1.back ++ ws) h.1.first g.1.first (then_same ts us vs ws h.1 g.1 e) in
    dir_or_nothing h.1.first.seen g.1.first.seen h.1.first.is g.1.first.is look.seen_is

-- where both saw nothing, they tell the same of the parent
both_gone : (dir : Path) (parent parent' : Bool) (names names' : List (List ℕ)) (ts us vs ws : List Entry) → ShowsListing dir false parent names ts → ShowsListing dir false parent' names' us → ts ++ vs ≡ us ++ ws → OneListing false false parent parent' names names' ts us vs ws
both_gone dir parent parent' names names' ts us vs ws h g e = record {
  there_is = refl;
  parent_is = sym h.1.second.is ∙ (ap is_dir above.seen_is ∙ g.1.second.is);
  names_are = subst (IsPermutation names) (h.0 ∙ sym g.0) (IsPermutation-refl names);
  looks_are = joined_same ts us h.1 g.1 look.looks_are above.looks_are;
  rest_is = above.rest_is;
}
  where
    look : OneLook h.1.first.seen g.1.first.seen h.1.front g.1.front (h.1.back ++ vs) (g.1.back ++ ws)
    look = one_look dir dir h.1.front g.1.front (h.1.back ++ vs) (g.1.back ++ ws) h.1.first g.1.first (then_same ts us vs ws h.1 g.1 e)

    above : OneLook h.1.second.seen g.1.second.seen h.1.back g.1.back vs ws
    above = one_look (parent_of dir) (parent_of dir) h.1.back g.1.back vs ws h.1.second g.1.second look.rest_is

-- a directory's looks tell one thing
pub one_listing : (dir : Path) (there there' parent parent' : Bool) (names names' : List (List ℕ)) (ts us vs ws : List Entry) → ShowsListing dir there parent names ts → ShowsListing dir there' parent' names' us → ts ++ vs ≡ us ++ ws → OneListing there there' parent parent' names names' ts us vs ws
one_listing dir true true parent parent' names names' ts us vs ws h g e = both_there dir parent parent' names names' ts us vs ws h g e
one_listing dir true false parent parent' names names' ts us vs ws h g e = absurd (there_or_gone dir parent parent' names names' ts us vs ws h g e)
one_listing dir false true parent parent' names names' ts us vs ws h g e = absurd (there_or_gone dir parent' parent names' names us ts ws vs g h (sym e))
one_listing dir false false parent parent' names names' ts us vs ws h g e = both_gone dir parent parent' names names' ts us vs ws h g e

-- a directory isn't listed where its look shows none
pub listing_or_none : (dir path : Path) (there parent : Bool) (names : List (List ℕ)) (ts us vs ws : List Entry) → ShowsListing dir there parent names ts → ShowsNoDir dir path us → ts ++ vs ≡ us ++ ws → ⊥
listing_or_none dir path true parent names ts us vs ws h g e =
    let look = one_look dir dir h.1.front us (h.1.back ++ vs) ws h.1.first g.1 (sym (append_assoc h.1.front h.1.back vs) ∙ (sym (ap (λ l. l ++ vs) h.1.joined) ∙ e)) in
    dir_or_not h.1.first.seen g.1.seen h.1.first.is g.1.is look.seen_is
listing_or_none dir path false parent names ts us vs ws h g e =
    let look = one_look dir dir h.1.front us (h.1.back ++ vs) ws h.1.first g.1 (sym (append_assoc h.1.front h.1.back vs) ∙ (sym (ap (λ l. l ++ vs) h.1.joined) ∙ e)) in
    not_or_nothing g.1.seen h.1.first.seen g.1.is h.1.first.is (sym look.seen_is)

-- ---- listings that are known

-- The two listings say the same, the names in some order.
pub record AreSame (l m : Listing) : Type 0 where
  pub there_is : l.there ≡ m.there
  pub parent_is : l.parent ≡ m.parent
  pub names_are : IsPermutation l.names m.names

-- The same directories are listed in both, and each says the same.
pub record KnownAlike (known others : List Listing) : Type 0 where
  pub forth : (dir : Path) (l : Listing) → WasListed known dir l → (m : Listing) × WasListed others dir m
  pub back : (dir : Path) (m : Listing) → WasListed others dir m → (l : Listing) × WasListed known dir l
  pub same : (dir : Path) (l m : Listing) → WasListed known dir l → WasListed others dir m → AreSame l m

-- none are known in both
pub none_alike : KnownAlike [] []
none_alike = record { forth = λ dir l w. absurd (none_listed dir l w); back = λ dir l w. absurd (none_listed dir l w); same = λ dir l m w v. absurd (none_listed dir l w) }

-- one that is listed was so before, or its listing has just come
listed_cases : (known : List Listing) (l x : Listing) (dir : Path) → WasListed (known ++ l ∷ []) dir x → WasListed known dir x ⊎ ((x ≡ l) × (l.dir ≡ dir))
listed_cases known l x dir w = ⊎_elim (λ (h : slice_get known w.place ≡ Some x). inl (record { place = w.place; there = h; same = w.same })) (λ h. inr (h.1, sym (ap (λ (y : Listing). y.dir) h.1) ∙ w.same)) (read_push_cases known l x w.place w.there)

module _ (known others : List Listing) (d : Path) (l m : Listing) (alike : KnownAlike known others) (p : l.dir ≡ d) (q : m.dir ≡ d) (new : WasNotListed known d) (new' : WasNotListed others d) (s : AreSame l m) where
  -- what is listed in the first is listed in the second
  forth_more : (dir : Path) (x : Listing) → WasListed (known ++ l ∷ []) dir x → (y : Listing) × WasListed (others ++ m ∷ []) dir y
  forth_more dir x w = ⊎_elim
      (λ (v : WasListed known dir x). let r = alike.forth dir x v in (r.0, listed_more others m r.0 dir r.1))
      (λ (h : (x ≡ l) × (l.dir ≡ dir)). (m, listed_last others m dir (q ∙ (sym p ∙ h.1))))
      (listed_cases known l x dir w)

  -- and the other way round
  back_more : (dir : Path) (y : Listing) → WasListed (others ++ m ∷ []) dir y → (x : Listing) × WasListed (known ++ l ∷ []) dir x
  back_more dir y w = ⊎_elim
      (λ (v : WasListed others dir y). let r = alike.back dir y v in (r.0, listed_more known l r.0 dir r.1))
      (λ (h : (y ≡ m) × (m.dir ≡ dir)). (l, listed_last known l dir (p ∙ (sym q ∙ h.1))))
      (listed_cases others m y dir w)

  -- and says the same
  same_more : (dir : Path) (x y : Listing) → WasListed (known ++ l ∷ []) dir x → WasListed (others ++ m ∷ []) dir y → AreSame x y
  same_more dir x y w v = ⊎_elim
      (λ (a : WasListed known dir x). ⊎_elim
      (λ (b : WasListed others dir y). alike.same dir x y a b)
      (λ (b : (y ≡ m) × (m.dir ≡ dir)). absurd (new x (subst (λ z. WasListed known z x) (sym b.1 ∙ q) a)))
      (listed_cases others m y dir v))
      (λ (a : (x ≡ l) × (l.dir ≡ dir)). ⊎_elim
      (λ (b : WasListed others dir y). absurd (new' y (subst (λ z. WasListed others z y) (sym a.1 ∙ p) b)))
      (λ (b : (y ≡ m) × (m.dir ≡ dir)). subst (λ z. AreSame z y) (sym a.0) (subst (AreSame l) (sym b.0) s))
      (listed_cases others m y dir v))
      (listed_cases known l x dir w)

  -- one listing more on each side, of a directory that wasn't listed before
  pub more_alike : KnownAlike (known ++ l ∷ []) (others ++ m ∷ [])
  more_alike = record { forth = forth_more; back = back_more; same = same_more }
