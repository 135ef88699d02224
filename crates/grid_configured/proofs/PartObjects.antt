-- The objects of the lines of planned parts, one part more at a time.
use Rattle.std.proofs.Common.{◌≡◌, refl, sym, ap, ◌∙◌, ℕ, zero, suc, ◌+◌, ◌==◌, cond, Some, List, [], ◌∷◌, ◌++◌, length, map, take, append_assoc, append-nil, add-one, arith}
use Rattle.std.specs.Prelude.{zip, filter, slice_get, codes}
use Rattle.std.specs.List.{count_by, flat_map, range_with_len}
use Rattle.std.proofs.lemmas.Bool.{eq-eqb, ne_eqb}
use Rattle.std.proofs.lemmas.List.{map-append, take_more}
use Rattle.std.proofs.lemmas.List.Concat.{flat_map-append}
use Rattle.std.proofs.lemmas.List.Elements.{filter-append}
use Rattle.std.proofs.lemmas.List.Sums.{length-filter}
use Rattle.std.proofs.lemmas.Option.{get_or_from_slice_get, slice_get_within}
use Rattle.grid_lemmas.proofs.Ranges.{range_last}
use Rattle.grid_lemmas.proofs.Counts.{count_cons}
use Rattle.grid_core.specs.declared.journal.Entry.{Entry}
use Rattle.grid_jsonl.specs.declared.line.Counts.{Counts}
use Rattle.grid_configured.specs.declared.reply.ConfiguredReply.{ConfiguredReply}
use Rattle.grid_configured.specs.declared.outcome.ConfiguredVariant.{ConfiguredVariant}
use Rattle.grid_configured.specs.Texts.{Told, steps_by}
use Rattle.grid_configured.specs.Outcomes.{told_pair, told_of, reported}
use Rattle.grid_configured.specs.Lines.{Placed, placed, placed_at, placed_from, command_object, worker_objects, variant_objects, objects, counts_of, is_refused}
use Rattle.serde_json.specs.Data.{Data}
use Rattle.grid_configured.specs.declared.plan.Block.{Block}
use Rattle.serde_json.specs.Data.{array}
use Rattle.serde_json.specs.View.{items_of}
use Rattle.grid_print.specs.Objects.{natural}
use Rattle.grid_jsonl.specs.Outcomes.{lines, object_of_kind, order_of, order_object, end_of}
use Rattle.grid_print.specs.Job.{line_of}
use Rattle.grid_configured.specs.Blocks.{block_objects, block_lines}

-- what is planned so far, and a part more
pub objects_more : (old now new part next all : List Data) → now ≡ old ++ part → new ≡ now ++ next → all ≡ part ++ next → new ≡ old ++ all
objects_more old now new part next all p q e = q ∙ ap (λ l. l ++ next) p ∙ append_assoc old part next ∙ ap (λ l. old ++ l) (sym e)

-- the objects of the blocks, where one of these is put last
pub pushed_objects : (old new : List Block) (b : Block) → new ≡ old ++ b ∷ [] → flat_map block_objects new ≡ flat_map block_objects old ++ block_objects b
pushed_objects old new b e = ap (flat_map block_objects) e ∙ flat_map-append block_objects old (b ∷ []) ∙ ap (λ l. flat_map block_objects old ++ l) (append-nil (block_objects b))

-- the objects of the numbers below one more
pub objects_range : (f : ℕ → List Data) (n : ℕ) → flat_map f (range_with_len 0 (n + 1)) ≡ flat_map f (range_with_len 0 n) ++ f n
objects_range f n =
    let e : 0 + n ≡ n = omega arith in
    ap (λ k. flat_map f (range_with_len 0 k)) (add-one n)
    ∙ ap (flat_map f) (range_last 0 n)
    ∙ flat_map-append f (range_with_len 0 n) ((0 + n) ∷ [])
    ∙ ap (λ l. flat_map f (range_with_len 0 n) ++ l) (append-nil (f (0 + n)) ∙ ap f e)

-- ---- the lines of blocks are those of their objects

pub lines_shown : (blocks : List Block) → flat_map block_lines blocks ≡ lines (flat_map block_objects blocks)
lines_shown [] = refl
lines_shown (b ∷ blocks) = ap (λ l. block_lines b ++ l) (lines_shown blocks) ∙ sym (flat_map-append line_of (block_objects b) (flat_map block_objects blocks))

-- ---- what the last line counts

told_long : (journal : List Entry) (replies : List ConfiguredReply) → length replies ≡ length journal → length (map told_pair (zip journal replies)) ≡ length journal
told_long [] [] e = refl
told_long [] (r ∷ replies) e = absurd (omega (arith, e))
told_long (x ∷ journal) [] e = absurd (omega (arith, e))
told_long (x ∷ journal) (r ∷ replies) e = ap suc (told_long journal replies (omega (arith, e)))

refused_told : (journal : List Entry) (replies : List ConfiguredReply) → length replies ≡ length journal → count_by (λ (t : Told). is_refused t.reply) (map told_pair (zip journal replies)) ≡ count_by is_refused replies
refused_told [] [] e = refl
refused_told [] (r ∷ replies) e = absurd (omega (arith, e))
refused_told (x ∷ journal) [] e = absurd (omega (arith, e))
refused_told (x ∷ journal) (r ∷ replies) e =
    count_cons (λ (t : Told). is_refused t.reply) (told_pair (x, r)) (map told_pair (zip journal replies))
    ∙ ap (λ n. cond (is_refused r) 1 0 + n) (refused_told journal replies (omega (arith, e)))
    ∙ sym (count_cons is_refused r replies)

pub counts_told : (journal : List Entry) (replies : List ConfiguredReply) (workers : ℕ) (views : List ConfiguredVariant) → length replies ≡ length journal
    → (let c : Counts = record { workers = workers; commands = length journal; refused = count_by is_refused replies; variants = length views; listeners = 0 } in c) ≡ counts_of (reported journal replies workers views)
unfolding counts_of told_of
counts_told journal replies workers views e =
    sym (ap (λ (n : ℕ). let c : Counts = record { workers = workers; commands = n; refused = count_by (λ (t : Told). is_refused t.reply) (map told_pair (zip journal replies)); variants = length views; listeners = 0 } in c) (told_long journal replies e)
    ∙ ap (λ (n : ℕ). let c : Counts = record { workers = workers; commands = length journal; refused = n; variants = length views; listeners = 0 } in c) (refused_told journal replies e))

-- ---- steps with their places

placed_get : (all : List Told) (place : ℕ) (rest : List Told) (n : ℕ) (t : Told) → slice_get rest n ≡ Some t → slice_get (placed_from all place rest) n ≡ Some (placed_at all (place + n) t)
unfolding placed_from
placed_get all place [] n t is = cc
placed_get all place (u ∷ rest) zero t is =
    let same : u ≡ t = cc in
    let e : place ≡ place + 0 = omega arith in
    ap (λ x. Some (placed_at all place x)) same ∙ ap (λ k. Some (placed_at all k t)) e
placed_get all place (u ∷ rest) (suc n) t is =
    let e : suc place + n ≡ place + suc n = omega arith in
    placed_get all (suc place) rest n t is ∙ ap (λ k. Some (placed_at all k t)) e

-- a worker's objects of the first so many steps
abbrev pub first_objects : ℕ → List Told → ℕ → List Data
first_objects worker all n = map command_object (filter (λ s. s.told.worker == worker) (take n (placed_from all 0 all)))

next_object : (worker : ℕ) (all : List Told) (n : ℕ) (t : Told) → slice_get all n ≡ Some t
    → first_objects worker all (n + 1) ≡ first_objects worker all n ++ map command_object (cond (t.worker == worker) (placed_at all n t ∷ []) [])
unfolding placed_at
next_object worker all n t is =
    let own = λ (s : Placed). s.told.worker == worker in
    let xs = placed_from all 0 all in
    let x = placed_at all n t in
    let e : 0 + n ≡ n = omega arith in
    let there : slice_get xs n ≡ Some x = placed_get all 0 all n t is ∙ ap (λ k. Some (placed_at all k t)) e in
    let more : take (n + 1) xs ≡ take n xs ++ x ∷ [] = take_more xs n x (slice_get_within xs n x there) ∙ ap (λ y. take n xs ++ y ∷ []) (get_or_from_slice_get xs n x x there) in
    ap (λ l. map command_object (filter own l)) more ∙ ap (map command_object) (filter-append own (take n xs) (x ∷ [])) ∙ map-append command_object (filter own (take n xs)) (filter own (x ∷ []))

pub other_object : (worker : ℕ) (all : List Told) (n : ℕ) (t : Told) → slice_get all n ≡ Some t → (t.worker ≡ worker → ⊥) → first_objects worker all (n + 1) ≡ first_objects worker all n
other_object worker all n t is other =
    next_object worker all n t is
    ∙ ap (λ b. first_objects worker all n ++ map command_object (cond b (placed_at all n t ∷ []) [])) (ne_eqb t.worker worker other)
    ∙ append-nil (first_objects worker all n)

pub own_object : (worker : ℕ) (all : List Told) (n number : ℕ) (t : Told) → slice_get all n ≡ Some t → t.worker ≡ worker → number ≡ length (steps_by worker (take (n + 1) all))
    → first_objects worker all (n + 1) ≡ first_objects worker all n ++ command_object (placed n number t) ∷ []
unfolding placed_at steps_by
own_object worker all n number t is own counted =
    let by = λ (u : Told). u.worker == worker in
    let many : count_by (λ (u : Told). u.worker == t.worker) (take (suc n) all) ≡ number =
    ap (λ w. count_by (λ (u : Told). u.worker == w) (take (suc n) all)) own ∙ sym (length-filter by (take (suc n) all)) ∙ ap (λ k. length (filter by (take k all))) (sym (add-one n)) ∙ sym counted in
    next_object worker all n t is
    ∙ ap (λ b. first_objects worker all n ++ map command_object (cond b (placed_at all n t ∷ []) [])) (eq-eqb t.worker worker own)
    ∙ ap (λ k. first_objects worker all n ++ command_object (placed n k t) ∷ []) many

pub length-placed : (all : List Told) (place : ℕ) (rest : List Told) → length (placed_from all place rest) ≡ length rest
unfolding placed_from
length-placed all place [] = refl
length-placed all place (t ∷ rest) = ap suc (length-placed all (suc place) rest)

-- ---- all objects

workers_told : (journal : List Entry) (replies : List ConfiguredReply) → length replies ≡ length journal
    → map (λ (e : Entry). natural e.worker) journal ≡ map (λ (t : Told). natural t.worker) (map told_pair (zip journal replies))
workers_told [] [] e = refl
workers_told [] (r ∷ replies) e = absurd (omega (arith, e))
workers_told (x ∷ journal) [] e = absurd (omega (arith, e))
workers_told (x ∷ journal) (r ∷ replies) e = ap (λ l. natural x.worker ∷ l) (workers_told journal replies (omega (arith, e)))

-- the order is that of the journal
order_told : (journal : List Entry) (replies : List ConfiguredReply) → length replies ≡ length journal → order_object journal ≡ order_of (λ (t : Told). t.worker) (told_of journal replies)
unfolding order_object told_of
order_told journal replies e = ap (λ l. object_of_kind (codes "order") ((codes "order", array (items_of l)) ∷ [])) (workers_told journal replies e)

-- the objects of all parts, one after the other
pub objects_assembled : (journal shown : List Entry) (replies answered : List ConfiguredReply) (workers : ℕ) (views seen : List ConfiguredVariant) (counts : Counts) (first second third all : List Data) → length replies ≡ length journal
    → shown ≡ journal → answered ≡ replies → seen ≡ views → counts ≡ counts_of (reported journal replies workers views)
    → first ≡ order_object shown ∷ [] → second ≡ first ++ flat_map (worker_objects (told_of shown answered)) (range_with_len 0 workers)
    → third ≡ second ++ flat_map variant_objects seen → all ≡ third ++ end_of counts ∷ [] → all ≡ objects (reported journal replies workers views)
unfolding objects
objects_assembled journal shown replies answered workers views seen counts first second third all even is_shown is_answered is_seen is_counted a b c d =
    let told = told_of journal replies in
    let order = order_of (λ (t : Told). t.worker) told in
    let by_workers = flat_map (worker_objects told) (range_with_len 0 workers) in
    let by_variants = flat_map variant_objects views in
    let last = end_of (counts_of (reported journal replies workers views)) ∷ [] in
    let start : first ≡ order ∷ [] = a ∙ ap (λ j. order_object j ∷ []) is_shown ∙ ap (λ o. o ∷ []) (order_told journal replies even) in
    let same : told_of shown answered ≡ told = ap (λ j. told_of j answered) is_shown ∙ ap (told_of journal) is_answered in
    let two : second ≡ order ∷ by_workers = b ∙ ap (λ t. t ++ flat_map (worker_objects (told_of shown answered)) (range_with_len 0 workers)) start ∙ ap (λ t. order ∷ flat_map (worker_objects t) (range_with_len 0 workers)) same in
    let three : third ≡ order ∷ (by_workers ++ by_variants) = c ∙ ap (λ t. t ++ flat_map variant_objects seen) two ∙ ap (λ v. order ∷ (by_workers ++ flat_map variant_objects v)) is_seen in
    d ∙ ap (λ n. third ++ end_of n ∷ []) is_counted ∙ ap (λ t. t ++ last) three
