-- What a report tells of steps, one step more at a time.
use Rattle.std.proofs.Common.{◌≡◌, ℕ, ◌+◌, ◌<◌, ◌≤◌, ◌==◌, cond, List, [], ◌∷◌, ◌++◌, map, take, get_or, length, refl, sym, ap, ◌∙◌, append-nil, length-append, arith}
use Rattle.std.specs.Prelude.{zip, codes, decimal}
use Rattle.std.specs.List.{flat_map, range_with_len}
use Rattle.std.proofs.lemmas.Bool.{eq-eqb, ne_eqb}
use Rattle.std.proofs.lemmas.List.{map-append, take_more, length-map, length-take-le}
use Rattle.std.proofs.lemmas.List.Concat.{flat_map-append}
use Rattle.std.proofs.lemmas.List.Elements.{filter-append}
use Rattle.std.proofs.lemmas.List.Sums.{length-filter, count_by-le-length}
use Rattle.grid_core.specs.declared.journal.Entry.{Entry}
use Rattle.grid_report.specs.Outcomes as outcomes
use Rattle.grid_report.specs.Outcomes.{numbered}
use Rattle.grid_report.proofs.ReportPlans.{one_more}
use Rattle.grid_configured.specs.declared.plan.Block.{Block}
use Rattle.grid_configured.specs.declared.reply.ConfiguredReply.{ConfiguredReply}
use Rattle.grid_configured.specs.declared.outcome.ConfiguredVariant.{ConfiguredVariant}
use Rattle.grid_configured.specs.Texts.{Told, step_text, steps_by, order_line, worker_text, variant_text, report_of}
use Rattle.grid_configured.specs.Outcomes.{told_pair, told_of, reported}
use Rattle.grid_configured.specs.Blocks.{block_text}

-- ---- steps of a worker

-- of the first so many pairs, and one more
pub told_more : (pairs : List (Entry × ConfiguredReply)) (i : ℕ) (pair : Entry × ConfiguredReply) → i < length pairs → pair ≡ get_or pairs i pair → map told_pair (take (i + 1) pairs) ≡ map told_pair (take i pairs) ++ told_pair pair ∷ []
told_more pairs i pair lt is =
    ap (map told_pair) (take_more pairs i pair lt ∙ ap (λ p. take i pairs ++ p ∷ []) (sym is))
    ∙ map-append told_pair (take i pairs) (pair ∷ [])

by_last : (worker : ℕ) (told : List Told) (t : Told) → steps_by worker (told ++ t ∷ []) ≡ steps_by worker told ++ cond (t.worker == worker) (t ∷ []) []
unfolding steps_by
by_last worker told t = filter-append (λ (x : Told). x.worker == worker) told (t ∷ [])

pub own_step : (worker : ℕ) (told : List Told) (t : Told) → t.worker ≡ worker → steps_by worker (told ++ t ∷ []) ≡ steps_by worker told ++ t ∷ []
own_step worker told t own = by_last worker told t ∙ ap (λ b. steps_by worker told ++ cond b (t ∷ []) []) (eq-eqb t.worker worker own)

pub other_step : (worker : ℕ) (told : List Told) (t : Told) → (t.worker ≡ worker → ⊥) → steps_by worker (told ++ t ∷ []) ≡ steps_by worker told
other_step worker told t other = by_last worker told t ∙ ap (λ b. steps_by worker told ++ cond b (t ∷ []) []) (ne_eqb t.worker worker other) ∙ append-nil (steps_by worker told)

pub few_steps : (worker : ℕ) (told : List Told) → length (steps_by worker told) ≤ length told
unfolding steps_by
few_steps worker told = omega (arith, length-filter (λ (x : Told). x.worker == worker) told, count_by-le-length (λ (x : Told). x.worker == worker) told)

-- the numbers of a worker's steps fit where those of all steps do
pub few_told : (worker : ℕ) (pairs : List (Entry × ConfiguredReply)) (i : ℕ) → i ≤ length pairs → length (steps_by worker (map told_pair (take i pairs))) ≤ i
few_told worker pairs i le = omega (arith, few_steps worker (map told_pair (take i pairs)), length-map (take i pairs) told_pair, length-take-le i pairs le)

-- how many steps of the worker there are, with one more
pub counted_more : (worker number : ℕ) (told : List Told) (t : Told) → t.worker ≡ worker → number ≡ length (steps_by worker told) → number + 1 ≡ length (steps_by worker (told ++ t ∷ []))
counted_more worker number told t own counted =
    let long : length (steps_by worker (told ++ t ∷ [])) ≡ length (steps_by worker told) + 1 = ap length (own_step worker told t own) ∙ length-append (steps_by worker told) (t ∷ []) in
    omega (arith, long, counted)

-- the step gets the next number
pub steps_more : (worker number : ℕ) (told : List Told) (t : Told) → t.worker ≡ worker → number ≡ length (steps_by worker told) → numbered step_text 1 (steps_by worker (told ++ t ∷ [])) ≡ numbered step_text 1 (steps_by worker told) ++ step_text (number + 1) t
steps_more worker number told t own counted =
    let next : 1 + length (steps_by worker told) ≡ number + 1 = omega (arith, counted) in
    ap (numbered step_text 1) (own_step worker told t own)
    ∙ one_more step_text 1 (steps_by worker told) t
    ∙ ap (λ n. numbered step_text 1 (steps_by worker told) ++ step_text n t) next

-- the text of the blocks, where one of these is put last
pub pushed : (old new : List Block) (b : Block) → new ≡ old ++ b ∷ [] → flat_map block_text new ≡ flat_map block_text old ++ block_text b
pushed old new b e = ap (flat_map block_text) e ∙ flat_map-append block_text old (b ∷ []) ∙ ap (λ l. flat_map block_text old ++ l) (append-nil (block_text b))

-- ---- the order

workers_shown : (journal : List Entry) (replies : List ConfiguredReply) → length replies ≡ length journal
    → flat_map (λ (e : Entry). codes " " ++ decimal e.worker) journal ≡ flat_map (λ (t : Told). codes " " ++ decimal t.worker) (map told_pair (zip journal replies))
workers_shown [] [] e = refl
workers_shown [] (r ∷ replies) e = absurd (omega (arith, e))
workers_shown (x ∷ journal) [] e = absurd (omega (arith, e))
workers_shown (x ∷ journal) (r ∷ replies) e = ap (λ l. (codes " " ++ decimal x.worker) ++ l) (workers_shown journal replies (omega (arith, e)))

-- the order is that of the journal
pub order_shown : (journal : List Entry) (replies : List ConfiguredReply) → length replies ≡ length journal → outcomes.order_line journal ≡ order_line (told_of journal replies)
unfolding outcomes.order_line order_line told_of
order_shown journal replies e = ap (λ l. codes "order" ++ l ++ codes "\n") (workers_shown journal replies e)

-- ---- the report

-- the text of all parts, one after the other
pub assembled : (journal shown : List Entry) (replies answered : List ConfiguredReply) (workers : ℕ) (views seen : List ConfiguredVariant) (first second third all : List ℕ) → length replies ≡ length journal
    → shown ≡ journal → answered ≡ replies → seen ≡ views → first ≡ outcomes.order_line shown → second ≡ first ++ flat_map (worker_text (told_of shown answered)) (range_with_len 0 workers)
    → third ≡ second ++ flat_map variant_text seen → all ≡ third ++ codes "end\n" → all ≡ report_of (reported journal replies workers views)
unfolding report_of
assembled journal shown replies answered workers views seen first second third all even is_shown is_answered is_seen a b c d =
    let told = told_of journal replies in
    let by_workers = flat_map (worker_text told) (range_with_len 0 workers) in
    let by_variants = flat_map variant_text views in
    let start : first ≡ order_line told = a ∙ ap outcomes.order_line is_shown ∙ order_shown journal replies even in
    let same : told_of shown answered ≡ told = ap (λ j. told_of j answered) is_shown ∙ ap (told_of journal) is_answered in
    let two : second ≡ order_line told ++ by_workers = b ∙ ap (λ t. t ++ flat_map (worker_text (told_of shown answered)) (range_with_len 0 workers)) start ∙ ap (λ t. order_line told ++ flat_map (worker_text t) (range_with_len 0 workers)) same in
    let three : third ≡ (order_line told ++ by_workers) ++ by_variants = c ∙ ap (λ t. t ++ flat_map variant_text seen) two ∙ ap (λ v. (order_line told ++ by_workers) ++ flat_map variant_text v) is_seen in
    d ∙ ap (λ t. t ++ codes "end\n") three
