-- Changes that a sweep stands over, and what it has found of them.
use Rattle.std.proofs.Common.{◌≡◌, sym, ap, ◌∙◌, subst, ℕ, ◌<◌, ◌≤◌, true, not, List, [], ◌∷◌, ◌++◌, length, get_or, map, filter, take, drop, reverse, append_assoc, arith}
use Rattle.std.specs.List.{list_any, AllZip, All}
use Rattle.std.proofs.lemmas.List.{append-nil, take-append-drop, map-id, get_or_default}
use Rattle.std.proofs.lemmas.List.Folds.{list_any_at}
use Rattle.std.proofs.lemmas.List.Elements.{All-same, All-filter, All-take, All-drop}
use Rattle.grid_lemmas.proofs.Bools.{or_false}
use Rattle.grid_graph.specs.Components.{places}
use Rattle.grid_graph.specs.Graph.{graph, EndsBelow}
use Rattle.grid_graph.proofs.Counts.{by_places}
use Rattle.grid_unions.specs.Summed.{Weighted, weighted}
use Rattle.grid_unions.specs.Sweep.{is_among, pair_at, kept, changed, IsFitting, IsFound, IsFoundOf}
use Rattle.grid_unions.specs.Halves.{is_gone, with_joined, HaveSame, IsReady, CanSweep, IsMore}
use Rattle.grid_unions.specs.declared.summed.Sums.{Sums}
use Rattle.grid_unions.specs.declared.sweeps.Change.{Change}
use Rattle.grid_unions.specs.declared.sweeps.Found.{Found}
use Rattle.grid_unions.proofs.Pairs.{parted, none_left, more_same}
use Rattle.grid_unions.proofs.Alike.{alike_from_same, alike_found}

-- what is gone in one of the changes is gone in some
gone_in : (changes : List Change) (k place : ℕ) (d : Change) → k < length changes → is_among (get_or changes k d).gone place ≡ true → is_gone changes place ≡ true
unfolding is_gone
gone_in changes k place d lt h = list_any_at (λ (c : Change). is_among c.gone place) changes k d lt h

-- each change is ready still, when what none of them has gone is joined
all_settled : (common joined now : List (ℕ × ℕ)) (pending rest : List ℕ) (changes : List Change) → All (IsReady common joined pending) changes
    → rest ≡ filter (is_gone changes) pending → now ≡ reverse (map (pair_at common) (filter (λ x. not (is_gone changes x)) pending)) ++ joined
    → All (IsReady common now rest) changes
all_settled common joined now pending rest changes ready e f = λ k d lt.
    let change : Change = get_or changes k d in
    let P : List (ℕ × ℕ) → List ℕ → Type 0 = λ ps xs. IsReady common ps xs change in
    subst (λ ps. P ps rest) (sym f)
    (subst (P (reverse (map (pair_at common) (filter (λ x. not (is_gone changes x)) pending)) ++ joined)) (sym e)
    (λ test. parted test (pair_at common) (is_among change.gone) (is_gone changes) (λ x h. gone_in changes k x d lt h) pending joined ∙ ready k d lt test))

gone_one : (change : Change) (place : ℕ) → is_gone (change ∷ []) place ≡ true → is_among change.gone place ≡ true
unfolding is_gone
gone_one change place h = sym (or_false (is_among change.gone place)) ∙ h

-- of one change all that it keeps is joined then
one_settled : (common joined : List (ℕ × ℕ)) (pending : List ℕ) (change : Change) → IsReady common joined (filter (is_gone (change ∷ [])) pending) change → IsReady common joined [] change
one_settled common joined pending change ready = λ test.
    sym (none_left test (pair_at common) (is_among change.gone) (is_gone (change ∷ [])) (gone_one change) pending joined) ∙ ready test

-- before any pair is joined, all places are pending
all_ready : (common : List (ℕ × ℕ)) (changes : List Change) → All (IsReady common [] (places (length common))) changes
unfolding kept
all_ready common changes = λ k d lt test. ap (list_any test) (append-nil (map (pair_at common) (filter (λ x. not (is_among (get_or changes k d).gone x)) (places (length common)))))

-- ---- what a sweep needs

-- when what none of the changes has gone is joined
pub settled : (common : List (ℕ × ℕ)) (changes : List Change) (before now : Weighted) (pending rest : List ℕ) → CanSweep common changes before pending
    → rest ≡ filter (is_gone changes) pending → now ≡ with_joined before (map (pair_at common) (filter (λ x. not (is_gone changes x)) pending))
    → CanSweep common changes now rest
settled common changes before now pending rest u e f =
    let count : before.net.nodes ≡ now.net.nodes = sym (ap (λ (w : Weighted). w.net.nodes) f) in
    record {
      some = (let P : ℕ → Type 0 = λ n. 0 < n in subst P count u.some);
      ends = (let P : ℕ → Type 0 = λ n. EndsBelow common n in subst P count u.ends);
      fitting = (let P : ℕ → Type 0 = λ n. All (IsFitting n common) changes in subst P count u.fitting);
      below = All-same (λ place. place < length common) rest (filter (is_gone changes) pending) e (All-filter (is_gone changes) (λ place. place < length common) pending u.below);
      ready = all_settled common before.net.pairs now.net.pairs pending rest changes u.ready e (ap (λ (w : Weighted). w.net.pairs) f);
    }

-- over fewer changes, where the same pairs are joined and the same places are pending
pub front_sweep : (common : List (ℕ × ℕ)) (changes part : List Change) (before now : Weighted) (pending rest : List ℕ) (at : ℕ) → part ≡ take at changes → now ≡ before → rest ≡ pending
    → CanSweep common changes before pending → CanSweep common part now rest
front_sweep common changes part before now pending rest at e f g u =
    let P : Weighted → List ℕ → Type 0 = λ w xs. CanSweep common part w xs in
    subst (λ w. P w rest) (sym f) (subst (P before) (sym g) (record {
      some = u.some;
      ends = u.ends;
      fitting = All-same (IsFitting before.net.nodes common) part (take at changes) e (All-take (IsFitting before.net.nodes common) at changes u.fitting);
      below = u.below;
      ready = All-same (IsReady common before.net.pairs pending) part (take at changes) e (All-take (IsReady common before.net.pairs pending) at changes u.ready);
    }))

pub back_sweep : (common : List (ℕ × ℕ)) (changes part : List Change) (before now : Weighted) (pending rest : List ℕ) (at : ℕ) → part ≡ drop at changes → now ≡ before → rest ≡ pending
    → CanSweep common changes before pending → CanSweep common part now rest
back_sweep common changes part before now pending rest at e f g u =
    let P : Weighted → List ℕ → Type 0 = λ w xs. CanSweep common part w xs in
    subst (λ w. P w rest) (sym f) (subst (P before) (sym g) (record {
      some = u.some;
      ends = u.ends;
      fitting = All-same (IsFitting before.net.nodes common) part (drop at changes) e (All-drop (IsFitting before.net.nodes common) at changes u.fitting);
      below = u.below;
      ready = All-same (IsReady common before.net.pairs pending) part (drop at changes) e (All-drop (IsReady common before.net.pairs pending) at changes u.ready);
    }))

-- a list of one change
pub single : (changes : List Change) (change : Change) → 1 ≤ length changes → length changes < 2 → change ≡ get_or changes 0 change → changes ≡ change ∷ []
single [] change some few is = absurd (omega arith)
single (x ∷ []) change some few is = ap (λ (y : Change). y ∷ []) (sym is)
single (x ∷ (y ∷ ys)) change some few is = absurd (omega arith)

pub one_ready : (common : List (ℕ × ℕ)) (changes : List Change) (now : Weighted) (pending rest : List ℕ) (change : Change) → changes ≡ change ∷ [] → rest ≡ filter (is_gone changes) pending
    → CanSweep common changes now rest → IsReady common now.net.pairs [] change
one_ready common changes now pending rest change e f u =
    let P : List ℕ → Type 0 = λ xs. All (IsReady common now.net.pairs xs) changes in
    let Q : List Change → Type 0 = λ cs. All (IsReady common now.net.pairs (filter (is_gone cs) pending)) cs in
    one_settled common now.net.pairs pending change (subst Q e (subst P f u.ready) 0 change (omega arith))

-- at the start no pair is joined and all places are pending
pub first_sweep : (common : List (ℕ × ℕ)) (changes : List Change) (count : ℕ) (weights : List Sums) (now : Weighted) (pending : List ℕ) (long : ℕ) → now ≡ weighted (graph count []) weights → 0 < count
    → EndsBelow common count → All (IsFitting count common) changes → length common ≡ long → length pending ≡ long → ((x : ℕ) → x < long → get_or pending x 0 ≡ x) → CanSweep common changes now pending
first_sweep common changes count weights now pending long e some ends fitting is many own =
    let all : pending ≡ places (length common) = by_places long (λ x. x) pending many own ∙ map-id (places long) ∙ ap places (sym is) in
    let P : Weighted → Type 0 = λ w. CanSweep common changes w pending in
    let Q : List ℕ → Type 0 = λ xs. All (IsReady common [] xs) changes in
    subst P (sym e) (record {
      some = some;
      ends = ends;
      fitting = fitting;
      below = λ k d lt. (let here : get_or pending k d ≡ k = get_or_default pending k d 0 lt ∙ own k (omega (arith, lt, many)) in omega (arith, here, lt, many, is));
      ready = subst Q (sym all) (all_ready common changes);
    })

-- ---- what is found

-- with a change's own pairs its graph has the same pairs
found_of_change : (weights : List Sums) (count : ℕ) (common joined now : List (ℕ × ℕ)) (change : Change) (found : Found) → count ≡ length weights → IsReady common joined [] change
    → now ≡ reverse change.own ++ joined → EndsBelow now count → IsFound weights (graph count now) found → IsFoundOf weights common change found
found_of_change weights count common joined now change found long ready e ends f =
    let P : ℕ → Type 0 = λ n. IsFound weights (changed n common change) found in
    let same : HaveSame now (kept common change.gone ++ change.own) = subst (λ ps. HaveSame ps (kept common change.gone ++ change.own)) (sym e) (more_same joined (kept common change.gone) change.own ready) in
    subst P long (alike_found count now (kept common change.gone ++ change.own) weights found (alike_from_same count now (kept common change.gone ++ change.own) ends same) f)

pub found_here : (before now : Weighted) (common : List (ℕ × ℕ)) (change : Change) (own : List (ℕ × ℕ)) (found : Found) → own ≡ change.own → now ≡ with_joined before own
    → IsReady common before.net.pairs [] change → EndsBelow now.net.pairs now.net.nodes → length now.weights ≡ now.net.nodes → IsFound now.weights now.net found → IsFoundOf before.weights common change found
found_here before now common change own found e h ready ends long f =
    let P : List Sums → Type 0 = λ ws. IsFoundOf ws common change found in
    subst P (ap (λ (w : Weighted). w.weights) h)
    (found_of_change now.weights now.net.nodes common before.net.pairs now.net.pairs change found (sym long) ready
    (ap (λ (w : Weighted). w.net.pairs) h ∙ ap (λ ps. reverse ps ++ before.net.pairs) e) ends f)

pub one_found : (weights : List Sums) (common : List (ℕ × ℕ)) (change : Change) (found : Found) (old new : List Found) → new ≡ old ++ found ∷ [] → IsFoundOf weights common change found
    → IsMore weights common (change ∷ []) old new
one_found weights common change found old new e f = record { last = found ∷ []; more = e; found = (f, tt) }

all_zip_both : {A B : Type 0} (R : A → B → Type 0) (xs : List A) (ys : List A) (us : List B) (vs : List B) → AllZip R xs us → AllZip R ys vs → AllZip R (xs ++ ys) (us ++ vs)
all_zip_both R [] ys [] vs h k = k
all_zip_both R [] ys (u ∷ us) vs h k = absurd h
all_zip_both R (x ∷ xs) ys [] vs h k = absurd h
all_zip_both R (x ∷ xs) ys (u ∷ us) vs h k = (h.0, all_zip_both R xs ys us vs h.1 k)

pub both_found : (weights : List Sums) (common : List (ℕ × ℕ)) (changes : List Change) (at : ℕ) (front back : List Change) (old between new : List Found) → front ≡ take at changes → back ≡ drop at changes
    → IsMore weights common front old between → IsMore weights common back between new → IsMore weights common changes old new
both_found weights common changes at front back old between new e f h k =
    let whole : front ++ back ≡ changes = ap (λ xs. xs ++ back) e ∙ ap (λ xs. take at changes ++ xs) f ∙ take-append-drop at changes in
    let P : List Change → Type 0 = λ xs. AllZip (IsFoundOf weights common) xs (h.last ++ k.last) in
    record {
      last = h.last ++ k.last;
      more = k.more ∙ ap (λ xs. xs ++ k.last) h.more ∙ append_assoc old h.last k.last;
      found = subst P whole (all_zip_both (IsFoundOf weights common) front back h.last k.last h.found k.found);
    }
