-- Telling one listener after the other.
use Rattle.std.proofs.Common.{◌≡◌, refl, sym, ap, ◌∙◌, ℕ, zero, suc, ◌+◌, ◌<◌, ◌≤◌, Bool, true, false, List, [], ◌∷◌, ◌++◌, length, map, take, drop, get_or, set, arith, add-one, append-nil, append_assoc}
use Rattle.std.specs.Prelude.{filter}
use Rattle.std.proofs.lemmas.List.Elements.{filter-append}
use Rattle.std.proofs.Math.Seq.{split_at, take-suc}
use Rattle.std.proofs.lemmas.List.{map-set, set-get_or}
use Rattle.grid_events.specs.declared.event.Event.{Event}
use Rattle.grid_events.specs.declared.listener.Subscription.{Subscription}
use Rattle.grid_events.specs.Filters.{matches}
use Rattle.grid_events.specs.Hearing.{Hearing, hearing, hearings, after_event, after_events, first_told}

module _ (event : Event) where
  pub told_next : (k : ℕ) (hs : List Hearing) (d : Hearing) → k < length hs
      → set (first_told event k hs) k (after_event event (get_or (first_told event k hs) k d)) ≡ first_told event (suc k) hs
  unfolding first_told
  told_next k [] d lt = absurd (omega arith)
  told_next zero (h ∷ hs) d lt = refl
  told_next (suc k) (h ∷ hs) d lt = ap (λ rest. after_event event h ∷ rest) (told_next k hs d (omega arith))

  pub told_all : (k : ℕ) (hs : List Hearing) → length hs ≤ k → first_told event k hs ≡ map (after_event event) hs
  unfolding first_told
  told_all zero [] le = refl
  told_all zero (h ∷ hs) le = absurd (omega arith)
  told_all (suc k) [] le = refl
  told_all (suc k) (h ∷ hs) le = ap (λ rest. after_event event h ∷ rest) (told_all k hs (omega arith))

  module _ {L : Type 0} (heard : L → List Event) where
    pub hearings_at : (ss : List (Subscription L)) (k : ℕ) (d : Subscription L) → hearing heard (get_or ss k d) ≡ get_or (hearings heard ss) k (hearing heard d)
    unfolding hearings
    hearings_at [] k d = refl
    hearings_at (s ∷ ss) zero d = refl
    hearings_at (s ∷ ss) (suc k) d = hearings_at ss k d

    pub hearings_long : (ss : List (Subscription L)) → length (hearings heard ss) ≡ length ss
    unfolding hearings
    hearings_long [] = refl
    hearings_long (s ∷ ss) = ap suc (hearings_long ss)

    pub hearings_set : (ss : List (Subscription L)) (k : ℕ) (s : Subscription L) → hearings heard (set ss k s) ≡ set (hearings heard ss) k (hearing heard s)
    unfolding hearings
    hearings_set ss k s = map-set (hearing heard) ss k s

    -- one more is told
    pub told_more : (old now : List (Subscription L)) (k : ℕ) (s t : Subscription L) → hearings heard now ≡ first_told event k (hearings heard old) → k < length old
        → s ≡ get_or now k s → hearing heard t ≡ after_event event (hearing heard s) → hearings heard (set now k t) ≡ first_told event (k + 1) (hearings heard old)
    told_more old now k s t same lt is told =
        let here : hearing heard s ≡ get_or (first_told event k (hearings heard old)) k (hearing heard s) =
        ap (hearing heard) is ∙ hearings_at now k s ∙ ap (λ z. get_or z k (hearing heard s)) same in
        let size = hearings_long old in
        rw add-one (hearings_set now k t ∙ ap (λ z. set z k (hearing heard t)) same
        ∙ ap (set (first_told event k (hearings heard old)) k) (told ∙ ap (after_event event) here)
        ∙ told_next k (hearings heard old) (hearing heard s) (omega (arith, lt, size)))

    -- one that is as before changes nothing
    pub told_same : (now : List (Subscription L)) (k : ℕ) (s t : Subscription L) → s ≡ get_or now k s → hearing heard t ≡ hearing heard s
        → hearings heard (set now k t) ≡ hearings heard now
    told_same now k s t is same =
        hearings_set now k t ∙ ap (set (hearings heard now) k) (same ∙ ap (hearing heard) is ∙ hearings_at now k s) ∙ set-get_or (hearings heard now) k (hearing heard s)

-- ---- one event after the other

with_heard : (h : Hearing) (x y : List Event) → x ≡ y → record h { heard = x } ≡ record h { heard = y }
with_heard h x y same = ap (λ l. record h { heard = l }) same

told_one : (events : List Event) (event : Event) (h : Hearing) (t : Bool) → matches h.filter event ≡ t → after_event event (after_events events h) ≡ after_events (events ++ event ∷ []) h
unfolding after_event after_events
told_one events event h true is =
    rw is (with_heard h ((h.heard ++ filter (matches h.filter) events) ++ event ∷ []) (h.heard ++ filter (matches h.filter) (events ++ event ∷ []))
    (append_assoc h.heard (filter (matches h.filter) events) (event ∷ []) ∙ ap (λ l. h.heard ++ l) (sym (filter-append (matches h.filter) events (event ∷ []) ∙ rw is refl))))
told_one events event h false is =
    rw is (with_heard h (h.heard ++ filter (matches h.filter) events) (h.heard ++ filter (matches h.filter) (events ++ event ∷ []))
    (ap (λ l. h.heard ++ l) (sym (filter-append (matches h.filter) events (event ∷ []) ∙ rw is (append-nil (filter (matches h.filter) events))))))

pub none_told : (hs : List Hearing) → hs ≡ map (after_events []) hs
unfolding after_events
none_told [] = refl
none_told (h ∷ hs) = ap (λ x. x ∷ hs) (with_heard h h.heard (h.heard ++ []) (sym (append-nil h.heard))) ∙ ap (λ y. after_events [] h ∷ y) (none_told hs)

pub told_next_event : (events : List Event) (event : Event) (hs : List Hearing) → map (after_event event) (map (after_events events) hs) ≡ map (after_events (events ++ event ∷ [])) hs
told_next_event events event [] = refl
told_next_event events event (h ∷ hs) =
    ap (λ x. x ∷ map (after_event event) (map (after_events events) hs)) (told_one events event h (matches h.filter event) refl)
    ∙ ap (λ y. after_events (events ++ event ∷ []) h ∷ y) (told_next_event events event hs)

pub cut_at : (events : List Event) (i : ℕ) (event : Event) → i < length events → event ≡ get_or events i event → events ≡ take i events ++ event ∷ drop (suc i) events
cut_at events i event lt is = split_at events i event lt ∙ ap (λ e. take i events ++ e ∷ drop (suc i) events) (sym is)

pub one_more : (events : List Event) (i : ℕ) (event : Event) → i < length events → event ≡ get_or events i event → take (i + 1) events ≡ take i events ++ event ∷ []
one_more events i event lt is = rw add-one (take-suc events i event lt ∙ ap (λ e. take i events ++ e ∷ []) (sym is))
