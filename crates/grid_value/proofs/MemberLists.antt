-- Members that are put one after the other, and looked for.
use Rattle.std.proofs.Common.{◌≡◌, List, [], ◌∷◌, ◌++◌, ℕ, ◌-◌, length, slice_set, Bool, true, false, cond, Option, Some, None, Result, Ok, Err, bytes_eq, true≢false, refl, sym, ap, ap₂, ◌∙◌, arith, length-append}
use Rattle.std.proofs.Math.Seq.{set-append_seam}
use Rattle.std.proofs.lemmas.Slice.Eq.{bytes_eq-Decides}
use Rattle.std.specs.Prelude.{OnOk}
use Rattle.json.specs.Token.{Token}
use Rattle.json.specs.Json.{parse_map}
use Rattle.serde_json.specs.Data.{Data, Items, Members, put}
use Rattle.serde_json.specs.Find.{get_member}
use Rattle.serde_json.proofs.Views.{get_member-put, get_member-put_other}
use Rattle.grid_value.specs.declared.node.Node.{Node}
use Rattle.grid_value.specs.View.{Listed, put_each, inside, data_of, data_at}
use Rattle.grid_value.specs.Tree.{Grows}

pub unchanged : (r : Option (Items × List Token)) → r ≡ parse_map (λ ds. ds) r
unchanged None = refl
unchanged (Some p) = refl

pub one_more : (front : Items → Items) (grow : Items → Items) (r : Option (Items × List Token)) → parse_map front (parse_map grow r) ≡ parse_map (λ ds. front (grow ds)) r
one_more front grow None = refl
one_more front grow (Some p) = refl

pub put_last : (ms : Listed) (name : List ℕ) (d : Data) (found : Members) → put_each (ms ++ (name, d) ∷ []) found ≡ put name d (put_each ms found)
put_last [] name d found = refl
put_last (n ∷ ms) name d found = put_last ms name d (put n.0 n.1 found)

pub found_at : (name k : List ℕ) (d : Data) (ms : Members) (same : Bool) → bytes_eq k name ≡ same → get_member name (put k d ms) ≡ cond same (Some d) (get_member name ms)
found_at name k d ms true e = ap (λ n. get_member n (put k d ms)) (sym ((bytes_eq-Decides k name).0 e)) ∙ get_member-put k d ms
found_at name k d ms false e = get_member-put_other name k d ms (λ h. true≢false (sym ((bytes_eq-Decides k name).1 (sym h)) ∙ e))

-- ---- nodes that were appended

pub grown_leaf : {old new : List Node} (n : Node) (found : Option (Data × List Token)) (behind : List Token) → new ≡ old ++ n ∷ [] → inside n ≡ 0 → found ≡ Some (data_of n [], behind) → Grows old new found behind
grown_leaf n found behind same whole is = record { head = n; body = []; same = same; whole = whole; is = is }

behind_one : (old : List Node) (n : Node) (body : List Node) → (old ++ n ∷ []) ++ body ≡ old ++ n ∷ body
behind_one [] n body = refl
behind_one (m ∷ old) n body = ap (λ ns. m ∷ ns) (behind_one old n body)

pub patched : (old one new body : List Node) (n m : Node) (place : ℕ) → place ≡ length old → one ≡ old ++ n ∷ [] → new ≡ one ++ body → slice_set new place m ≡ old ++ m ∷ body
patched old one new body n m place here first all =
    ap₂ (λ ns i. slice_set ns i m) (all ∙ ap (λ ns. ns ++ body) first ∙ behind_one old n body) here ∙ set-append_seam old n body m

pub counted : (old new body : List Node) (n : Node) (place all_places : ℕ) → place ≡ length old → all_places ≡ length new → new ≡ (old ++ n ∷ []) ++ body → all_places - place - 1 ≡ length body
counted old new body n place all_places here count all =
    let long = ap length (all ∙ behind_one old n body) ∙ length-append old (n ∷ body) in
    omega (arith, long, here, count)

-- what grew from nothing is the value itself
pub grown_alone : {old new : List Node} (found : Option (Data × List Token)) (behind : List Token) → old ≡ [] → Grows old new found behind → found ≡ Some (data_at new, behind)
grown_alone found behind none grown = grown.is ∙ ap (λ ns. Some (data_at ns, behind)) (sym (grown.same ∙ ap (λ ns. ns ++ grown.head ∷ grown.body) none))

pub map_ok : {A B P Q : Type 0} (r : Result A B) → (P → Q) → OnOk r P → OnOk r Q
map_ok (Ok x) f p = f p
map_ok (Err e) f p = tt
