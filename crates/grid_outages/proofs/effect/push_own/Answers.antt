use Rattle.std.proofs.Common.{◌≡◌, sym, ap, ◌∙◌, ℕ, ◌+◌, ◌<◌, ◌++◌, [], ◌∷◌, List, length, get_or, take, append_assoc, Option, Some, None, ◌≤◌, zero, suc, refl, arith}
use Rattle.std.specs.Prelude.{flat_map, slice_get}
use Rattle.std.proofs.lemmas.List.{append-nil, take_more, take_all}
use Rattle.std.proofs.lemmas.Grind.{flat_map-append}
use Rattle.std.proofs.lemmas.Option.{slice_get_read}
use Rattle.grid_figures.specs.Outages.{LinkAt}
use Rattle.grid_outages.specs.declared.screening.Link.{Link}
use Rattle.grid_outages.specs.Changes.{Changes}
use Rattle.grid_outages.specs.Parts.{joined_at, own_among}
use Rattle.grid_outages.proofs.effect.push_own.Goals as goal

more : (links : List Link) (changes : Changes) (ps : List ℕ) (i : ℕ) (o : Option Link) → i < length ps → slice_get links (get_or ps i 0) ≡ o → own_among links changes (take (i + 1) ps) ≡ own_among links changes (take i ps) ++ joined_at changes o
unfolding own_among
more links changes ps i o lt e =
    let f = λ (place : ℕ). joined_at changes (slice_get links place) in
    ap (flat_map f) (take_more ps i 0 lt) ∙ flat_map-append f (take i ps) (get_or ps i 0 ∷ []) ∙ ap (λ z. flat_map f (take i ps) ++ z) (append-nil (f (get_or ps i 0)) ∙ ap (joined_at changes) e)

get_none : (xs : List Link) (k : ℕ) → length xs ≤ k → slice_get xs k ≡ None
get_none [] k h = refl
get_none (x ∷ xs) zero h = absurd (omega arith)
get_none (x ∷ xs) (suc k) h = get_none xs k (omega arith)

pub loop-place-init : goal.loop-place-init
unfolding own_among
loop-place-init c = sym (append-nil c.args.own.now)

pub loop-place-preserved-in_default : goal.loop-place-preserved-in_default
loop-place-preserved-in_default c =
    let none : slice_get c.args.links.now (get_or c.args.places.now c.loop-place.place-index 0) ≡ None = get_none c.args.links.now _ c.in_default.ensures.lookup.3 in
    c.loop-place.invariant ∙ ap (λ z. c.args.own.now ++ z) (sym (more c.args.links.now c.args.changes.now c.args.places.now c.loop-place.place-index None c.loop-place-test.true none ∙ append-nil _))

pub loop-place-preserved : goal.loop-place-preserved
loop-place-preserved c =
    let so_far = own_among c.args.links.now c.args.changes.now (take c.loop-place.place-index c.args.places.now) in
    let some : slice_get c.args.links.now (get_or c.args.places.now c.loop-place.place-index 0) ≡ Some c.in-Some.link.now = slice_get_read c.args.links.now (length c.args.links.now) _ c.in-Some.link.now refl c.in-Some.ensures.lookup.3.0 c.in-Some.ensures.lookup.1 in
    c.in_ok-push_joined.ensures ∙ ap (λ z. z ++ joined_at c.args.changes.now (Some c.in-Some.link.now)) c.loop-place.invariant ∙ append_assoc c.args.own.now so_far (joined_at c.args.changes.now (Some c.in-Some.link.now))
    ∙ ap (λ z. c.args.own.now ++ z) (sym (more c.args.links.now c.args.changes.now c.args.places.now c.loop-place.place-index (Some c.in-Some.link.now) c.loop-place-test.true some))
