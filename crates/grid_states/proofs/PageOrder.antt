-- Pages by key, and what the levels by place are then.
use Rattle.std.proofs.Common.{◌≡◌, ◌≢◌, refl, sym, ap, ◌∙◌, subst, ℕ, ℤ, pos, zero, suc, ◌+◌, ◌-◌, ◌<◌, ◌≤◌, Bool, List, [], ◌∷◌, ◌++◌, length, map, arith, take, set, get_or, length-set, get_or-set_same}
use Rattle.std.specs.Prelude.{insert, remove, Result, Ok, Err, OnOk, OnErr, None}
use Rattle.std.proofs.lemmas.List.{get_or-map, get_or-set_other, get_or_read, get_or_append_left, get_or-append_right, set-get_or, length-map, length_push, map_more}
use Rattle.std.proofs.lemmas.List.Edits.{length-insert, insert_end}
use Rattle.grid_states.specs.declared.page.Content.{Content}
use Rattle.grid_states.specs.declared.row.NodeWatts.{NodeWatts}
use Rattle.grid_states.specs.Pairs.{with_pair, without_pair, value_at}
use Rattle.grid_states.specs.Rows.{Rows, no_rows, rows_in, row_at, with_row, pairs_at, with_pairs, with_node, without_node, content_at, with_flag, with_last, without_flag, with_places, with_page, with_page_at, with_opened, with_opened_all, with_retained, with_switch, without_switch, with_watts, without_watts, HasRoom}
use Rattle.grid_states.proofs.WattPairs.{no_value_kept}
use Rattle.grid_states.proofs.RowFlags.{with_flags-row}
use Rattle.grid_states.specs.Order.{Lacks, AreKeys, IsOrder, no_content, page_at, rows_of}

-- ---- keys

pub key_below : (count : ℕ) (order : List ℕ) (level : ℕ) → AreKeys count order → level < length order → get_or order level 0 < count
unfolding AreKeys
key_below count [] level keys lt = absurd (omega arith)
key_below count (key ∷ rest) zero keys lt = keys.0
key_below count (key ∷ rest) (suc level) keys lt = key_below count rest level keys.1.1 (omega arith)

another : (key : ℕ) (rest : List ℕ) (level : ℕ) → Lacks key rest → level < length rest → get_or rest level 0 ≢ key
unfolding Lacks
another key [] level lacks lt = absurd (omega arith)
another key (other ∷ rest) zero lacks lt = lacks.0
another key (other ∷ rest) (suc level) lacks lt = another key rest level lacks.1 (omega arith)

lacks_next : (count : ℕ) (order : List ℕ) → AreKeys count order → Lacks count order
unfolding Lacks AreKeys
lacks_next count [] keys = tt
lacks_next count (key ∷ rest) keys = ((λ e. let below = keys.0 in absurd (omega (arith, below, e))), lacks_next count rest keys.1.1)

lacks_insert : (key : ℕ) (rest : List ℕ) (level new : ℕ) → Lacks key rest → new ≢ key → Lacks key (insert rest level new)
unfolding Lacks
lacks_insert key [] zero new lacks differ = (differ, tt)
lacks_insert key [] (suc level) new lacks differ = (differ, tt)
lacks_insert key (other ∷ rest) zero new lacks differ = (differ, lacks)
lacks_insert key (other ∷ rest) (suc level) new lacks differ = (lacks.0, lacks_insert key rest level new lacks.1 differ)

keys_more : (count : ℕ) (order : List ℕ) → AreKeys count order → AreKeys (count + 1) order
unfolding AreKeys
keys_more count [] keys = tt
keys_more count (key ∷ rest) keys = (omega (arith, keys.0), (keys.1.0, keys_more count rest keys.1.1))

keys_insert : (count : ℕ) (order : List ℕ) (level : ℕ) → AreKeys count order → AreKeys (count + 1) (insert order level count)
unfolding AreKeys Lacks
keys_insert count [] zero keys = (omega arith, (tt, tt))
keys_insert count [] (suc level) keys = (omega arith, (tt, tt))
keys_insert count (key ∷ rest) zero keys = (omega arith, (lacks_next count (key ∷ rest) keys, keys_more count (key ∷ rest) keys))
keys_insert count (key ∷ rest) (suc level) keys =
    let below = keys.0 in (
      omega (arith, below),
      (lacks_insert key rest level count keys.1.0 (λ e. absurd (omega (arith, below, e))), keys_insert count rest level keys.1.1),
    )

-- ---- another page for a key

module _ {Y : Type 0} (f : Content → Y) where
  unset : (pages : List Content) (page : Content) (key : ℕ) (rest : List ℕ) → Lacks key rest
      → map (λ k. f (page_at (set pages key page) k)) rest ≡ map (λ k. f (page_at pages k)) rest
  unfolding Lacks
  unset pages page key [] lacks = refl
  unset pages page key (other ∷ rest) lacks =
      ap (λ y. f y ∷ map (λ k. f (page_at (set pages key page) k)) rest) (get_or-set_other pages key other page no_content lacks.0)
      ∙ ap (λ ys. f (page_at pages other) ∷ ys) (unset pages page key rest lacks.1)

  key_set : (pages : List Content) (page : Content) (order : List ℕ) (level : ℕ) → AreKeys (length pages) order → level < length order
      → map (λ k. f (page_at (set pages (get_or order level 0) page) k)) order ≡ set (map (λ k. f (page_at pages k)) order) level (f page)
  unfolding AreKeys
  key_set pages page [] level keys lt = absurd (omega arith)
  key_set pages page (key ∷ rest) zero keys lt =
      ap (λ y. f y ∷ map (λ k. f (page_at (set pages key page) k)) rest) (get_or-set_same pages key page no_content keys.0)
      ∙ ap (λ ys. f page ∷ ys) (unset pages page key rest keys.1.0)
  key_set pages page (key ∷ rest) (suc level) keys lt =
      let other : get_or rest level 0 ≢ key = another key rest level keys.1.0 (omega arith) in
      ap (λ y. f y ∷ map (λ k. f (page_at (set pages (get_or rest level 0) page) k)) rest)
      (get_or-set_other pages (get_or rest level 0) key page no_content (λ e. other (sym e)))
      ∙ ap (λ ys. f (page_at pages key) ∷ ys) (key_set pages page rest level keys.1.1 (omega arith))

  -- a page more, last
  more : (pages : List Content) (page : Content) (order : List ℕ) → AreKeys (length pages) order
      → map (λ k. f (page_at (pages ++ page ∷ []) k)) order ≡ map (λ k. f (page_at pages k)) order
  unfolding AreKeys
  more pages page [] keys = refl
  more pages page (key ∷ rest) keys =
      ap (λ y. f y ∷ map (λ k. f (page_at (pages ++ page ∷ []) k)) rest) (get_or_append_left pages (page ∷ []) no_content key keys.0)
      ∙ ap (λ ys. f (page_at pages key) ∷ ys) (more pages page rest keys.1.1)

  map-insert : {X : Type 0} (g : X → Y) (xs : List X) (k : ℕ) (x : X) → map g (insert xs k x) ≡ insert (map g xs) k (g x)
  map-insert g [] zero x = refl
  map-insert g [] (suc k) x = refl
  map-insert g (y ∷ xs) zero x = refl
  map-insert g (y ∷ xs) (suc k) x = ap (λ z. g y ∷ z) (map-insert g xs k x)

  key_insert : (pages : List Content) (page : Content) (order : List ℕ) (level : ℕ) → AreKeys (length pages) order
      → map (λ k. f (page_at (pages ++ page ∷ []) k)) (insert order level (length pages)) ≡ insert (map (λ k. f (page_at pages k)) order) level (f page)
  key_insert pages page order level keys =
      map-insert (λ k. f (page_at (pages ++ page ∷ []) k)) order level (length pages)
      ∙ ap (λ ys. insert ys level (f (page_at (pages ++ page ∷ []) (length pages)))) (more pages page order keys)
      ∙ ap (λ y. insert (map (λ k. f (page_at pages k)) order) level (f y)) (get_or-append_right pages (page ∷ []) (length pages) (length pages) no_content refl (omega arith) ∙ ap (λ n. get_or (page ∷ []) n no_content) (let none : length pages - length pages ≡ 0 = omega arith in none))

-- ---- of states

-- a level's key, among orders of so many pages that are seen as rows
pub record IsKey (order : List ℕ) (pages : List Content) (load generation : ℤ) (now : Rows) (level key : ℕ) : Type 0 where
  pub order_is : IsOrder order (length pages)
  pub seen : rows_of order pages load generation ≡ now
  pub inside : level < length order
  pub key_is : key ≡ get_or order level 0

pub levels_are : (order : List ℕ) (pages : List Content) (load generation : ℤ) (now : Rows) → rows_of order pages load generation ≡ now → length order ≡ length now.opened
unfolding rows_of
levels_are order pages load generation now seen = sym (length-map order (λ k. (page_at pages k).opened)) ∙ ap (λ r. length r.opened) seen

pub levels_are_retained : (order : List ℕ) (pages : List Content) (load generation : ℤ) (now : Rows) → rows_of order pages load generation ≡ now → length order ≡ length now.retained
unfolding rows_of
levels_are_retained order pages load generation now seen = sym (length-map order (λ k. (page_at pages k).retained)) ∙ ap (λ r. length r.retained) seen

pub levels_are_watts : (order : List ℕ) (pages : List Content) (load generation : ℤ) (now : Rows) → rows_of order pages load generation ≡ now → length order ≡ length now.watts
unfolding rows_of
levels_are_watts order pages load generation now seen = sym (length-map order (λ k. (page_at pages k).watts)) ∙ ap (λ r. length r.watts) seen

pub key_in : (order : List ℕ) (pages : List Content) (load generation : ℤ) (now : Rows) (level key : ℕ) → IsOrder order (length pages) → rows_of order pages load generation ≡ now
    → level < length now.opened → key ≡ get_or order level key → IsKey order pages load generation now level key
key_in order pages load generation now level key is seen within read =
    let below : level < length order = omega (arith, within, levels_are order pages load generation now seen) in
    record { order_is = is; seen = seen; inside = below; key_is = get_or_read order level key below read 0 }

-- a content by its parts
abbrev pub content_of : List Bool → List Bool → List NodeWatts → Content
content_of opened retained watts = record { opened = opened; retained = retained; watts = watts }

module _ {order : List ℕ} {pages : List Content} {load generation : ℤ} {now : Rows} {level key : ℕ} (is : IsKey order pages load generation now level key) where
  pub within : key < length pages
  within = subst (λ k. k < length pages) (sym is.key_is) (key_below (length pages) order level is.order_is.keys is.inside)

  -- of the page of the level
  there : {Y : Type 0} (f : Content → Y) (d : Y) → f (page_at pages key) ≡ get_or (map (λ k. f (page_at pages k)) order) level d
  there f d = ap (λ k. f (page_at pages k)) is.key_is ∙ sym (get_or-map (λ k. f (page_at pages k)) order level 0 d is.inside)

  -- the page of the level is its content
  pub page_is : (page : Content) → page ≡ get_or pages key page → page ≡ content_at now level
  unfolding rows_of row_at pairs_at
  page_is page read =
      get_or_read pages key page within read no_content
      ∙ ap (λ o. content_of o (page_at pages key).retained (page_at pages key).watts) (there (λ p. p.opened) [] ∙ ap (λ r. get_or r.opened level []) is.seen)
      ∙ ap (λ r. content_of (get_or now.opened level []) r (page_at pages key).watts) (there (λ p. p.retained) [] ∙ ap (λ r. get_or r.retained level []) is.seen)
      ∙ ap (content_of (get_or now.opened level []) (get_or now.retained level [])) (there (λ p. p.watts) [] ∙ ap (λ r. get_or r.watts level []) is.seen)

  put : {Y : Type 0} (f : Content → Y) (page : Content) → map (λ k. f (page_at (set pages key page) k)) order ≡ set (map (λ k. f (page_at pages k)) order) level (f page)
  put f page = ap (λ k. map (λ j. f (page_at (set pages k page) j)) order) is.key_is ∙ key_set f pages page order level is.order_is.keys is.inside

  -- another page for the level
  pub page_set : (page : Content) → rows_of order (set pages key page) load generation ≡ with_page now level page
  unfolding rows_of with_page with_row with_pairs
  page_set page =
      let flags : (List (List Bool)) → (List (List Bool)) → (List (List NodeWatts)) → Rows = λ o r w. record { opened = o; retained = r; watts = w; load = load; generation = generation } in
      let new = set pages key page in
      ap (λ o. flags o (map (λ k. (page_at new k).retained) order) (map (λ k. (page_at new k).watts) order)) (put (λ p. p.opened) page)
      ∙ ap (λ r. flags (set (map (λ k. (page_at pages k).opened) order) level page.opened) r (map (λ k. (page_at new k).watts) order)) (put (λ p. p.retained) page)
      ∙ ap (λ w. flags (set (map (λ k. (page_at pages k).opened) order) level page.opened) (set (map (λ k. (page_at pages k).retained) order) level page.retained) w) (put (λ p. p.watts) page)
      ∙ ap (λ (r : Rows). with_page r level page) is.seen

  pub order_set : (page : Content) → IsOrder order (length (set pages key page))
  order_set page = subst (IsOrder order) (sym (length-set pages key page)) is.order_is

-- a level's own content put for it
pub same_page : (now : Rows) (level : ℕ) → with_page now level (content_at now level) ≡ now
unfolding with_page with_row with_pairs row_at pairs_at
same_page now level =
    let rows : (List (List Bool)) → (List (List Bool)) → (List (List NodeWatts)) → Rows = λ o r w. record now { opened = o; retained = r; watts = w } in
    ap (λ o. rows o (set now.retained level (get_or now.retained level [])) (set now.watts level (get_or now.watts level []))) (set-get_or now.opened level [])
    ∙ ap (λ r. rows now.opened r (set now.watts level (get_or now.watts level []))) (set-get_or now.retained level [])
    ∙ ap (rows now.opened now.retained) (set-get_or now.watts level [])

-- a level more
pub order_more : (order : List ℕ) (pages : List Content) (level : ℕ) (page : Content) → IsOrder order (length pages) → level ≤ length order
    → IsOrder (insert order level (length pages)) (length (pages ++ page ∷ []))
order_more order pages level page is within =
    let long = is.long in
    subst (IsOrder (insert order level (length pages))) (sym (length_push pages page)) (record {
      long = length-insert order level (length pages) within ∙ ap (λ n. n + 1) long;
      keys = keys_insert (length pages) order level is.keys;
    })

pub page_more : (order : List ℕ) (pages : List Content) (load generation : ℤ) (level : ℕ) (page : Content) → IsOrder order (length pages)
    → rows_of (insert order level (length pages)) (pages ++ page ∷ []) load generation ≡ with_page_at (rows_of order pages load generation) level page
unfolding rows_of with_page_at
page_more order pages load generation level page is =
    let rows : (List (List Bool)) → (List (List Bool)) → (List (List NodeWatts)) → Rows = λ o r w. record { opened = o; retained = r; watts = w; load = load; generation = generation } in
    let new = pages ++ page ∷ [] in
    let longer = insert order level (length pages) in
    ap (λ o. rows o (map (λ k. (page_at new k).retained) longer) (map (λ k. (page_at new k).watts) longer)) (key_insert (λ p. p.opened) pages page order level is.keys)
    ∙ ap (λ r. rows (insert (map (λ k. (page_at pages k).opened) order) level page.opened) r (map (λ k. (page_at new k).watts) longer)) (key_insert (λ p. p.retained) pages page order level is.keys)
    ∙ ap (rows (insert (map (λ k. (page_at pages k).opened) order) level page.opened) (insert (map (λ k. (page_at pages k).retained) order) level page.retained))
    (key_insert (λ p. p.watts) pages page order level is.keys)

-- ---- a level's page changed

module _ (now : Rows) (level : ℕ) (page : Content) (page_at_level : page ≡ content_at now level) where
  -- the rows with a page that is made of the level's
  with_made : {T E : Type 0} (r : Result T E) (new : Content) (f : Content → Content) (goal : Rows) → with_page now level (f (content_at now level)) ≡ goal → OnOk r (new ≡ f page) → OnOk r (with_page now level new ≡ goal)
  with_made (Ok done) new f goal same ok = ap (with_page now level) (ok ∙ ap f page_at_level) ∙ same
  with_made (Err fault) new f goal same ok = ok

  kept_opened : set now.opened level (row_at now.opened level) ≡ now.opened
  unfolding row_at
  kept_opened = set-get_or now.opened level []

  kept_retained : set now.retained level (row_at now.retained level) ≡ now.retained
  unfolding row_at
  kept_retained = set-get_or now.retained level []

  kept_watts : set now.watts level (pairs_at now.watts level) ≡ now.watts
  unfolding pairs_at
  kept_watts = set-get_or now.watts level []

  pub set_if_ok : {T E : Type 0} (r : Result T E) (new : Content) (place : ℕ) (flag : Bool) → OnOk r (new ≡ record page { opened = set page.opened place flag })
      → OnOk r (with_page now level new ≡ with_opened now level place flag)
  unfolding with_opened with_flag with_page with_row with_pairs
  set_if_ok r new place flag ok =
      let o = set now.opened level (set (row_at now.opened level) place flag) in
      with_made r new (λ p. record p { opened = set p.opened place flag }) (with_opened now level place flag)
      (ap (λ z. let y : Rows = record now { opened = o; retained = z; watts = set now.watts level (pairs_at now.watts level) } in y) kept_retained
      ∙ ap (λ z. let y : Rows = record now { opened = o; watts = z } in y) kept_watts) ok

  pub set_all_if_ok : {T E : Type 0} (r : Result T E) (new : Content) (places : List ℕ) (flag : Bool) → level < length now.opened
      → OnOk r (new ≡ record page { opened = with_places page.opened places flag }) → OnOk r (with_page now level new ≡ with_opened_all now level places flag)
  unfolding with_opened_all with_page with_row with_pairs
  set_all_if_ok r new places flag below ok =
      let o = set now.opened level (with_places (row_at now.opened level) places flag) in
      with_made r new (λ p. record p { opened = with_places p.opened places flag }) (with_opened_all now level places flag)
      (ap (λ z. let y : Rows = record now { opened = o; retained = z; watts = set now.watts level (pairs_at now.watts level) } in y) kept_retained
      ∙ ap (λ z. let y : Rows = record now { opened = o; watts = z } in y) kept_watts
      ∙ ap (λ z. let y : Rows = record now { opened = z } in y) (with_flags-row now.opened level places flag below)) ok

  pub set_retained_if_ok : {T E : Type 0} (r : Result T E) (new : Content) (place : ℕ) (flag : Bool) → OnOk r (new ≡ record page { retained = set page.retained place flag })
      → OnOk r (with_page now level new ≡ with_retained now level place flag)
  unfolding with_retained with_flag with_page with_row with_pairs
  set_retained_if_ok r new place flag ok =
      let t = set now.retained level (set (row_at now.retained level) place flag) in
      with_made r new (λ p. record p { retained = set p.retained place flag }) (with_retained now level place flag)
      (ap (λ z. let y : Rows = record now { opened = z; retained = t; watts = set now.watts level (pairs_at now.watts level) } in y) kept_opened
      ∙ ap (λ z. let y : Rows = record now { retained = t; watts = z } in y) kept_watts) ok

  pub gain_if_ok : {T E : Type 0} (r : Result T E) (new : Content) (opened retained : Bool)
      → OnOk r (new ≡ (record page { opened = page.opened ++ opened ∷ []; retained = page.retained ++ retained ∷ [] }))
      → OnOk r (with_page now level new ≡ with_switch now level opened retained)
  unfolding with_switch with_last with_page with_row with_pairs
  gain_if_ok r new opened retained ok =
      let o = set now.opened level (row_at now.opened level ++ opened ∷ []) in
      let t = set now.retained level (row_at now.retained level ++ retained ∷ []) in
      with_made r new (λ p. record p { opened = p.opened ++ opened ∷ []; retained = p.retained ++ retained ∷ [] }) (with_switch now level opened retained)
      (ap (λ z. let y : Rows = record now { opened = o; retained = t; watts = z } in y) kept_watts) ok

  pub lose_if_ok : {T E : Type 0} (r : Result T E) (new : Content) (place : ℕ)
      → OnOk r (new ≡ (record page { opened = remove page.opened place; retained = remove page.retained place }))
      → OnOk r (with_page now level new ≡ without_switch now level place)
  unfolding without_switch without_flag with_page with_row with_pairs
  lose_if_ok r new place ok =
      let o = set now.opened level (remove (row_at now.opened level) place) in
      let t = set now.retained level (remove (row_at now.retained level) place) in
      with_made r new (λ p. record p { opened = remove p.opened place; retained = remove p.retained place }) (without_switch now level place)
      (ap (λ z. let y : Rows = record now { opened = o; retained = t; watts = z } in y) kept_watts) ok

  -- the pairs alone changed
  paired : (w : List NodeWatts) → with_page now level (record (content_at now level) { watts = w }) ≡ record now { watts = with_pairs now.watts level w }
  unfolding with_page with_row
  paired w =
      ap (λ z. let y : Rows = record now { opened = z; retained = set now.retained level (row_at now.retained level); watts = with_pairs now.watts level w } in y) kept_opened
      ∙ ap (λ z. let y : Rows = record now { retained = z; watts = with_pairs now.watts level w } in y) kept_retained

  pub watts_if_ok : {T E : Type 0} (r : Result T E) (new : Content) (node : ℕ) (watts : ℤ) → OnOk r (new ≡ record page { watts = with_pair node watts page.watts })
      → OnOk r (with_page now level new ≡ with_watts now level node watts)
  unfolding with_watts with_node
  watts_if_ok r new node watts ok =
      with_made r new (λ p. record p { watts = with_pair node watts p.watts }) (with_watts now level node watts) (paired (with_pair node watts (pairs_at now.watts level))) ok

  pub forget_if_ok : {T E : Type 0} (r : Result T E) (new : Content) (node : ℕ) → OnOk r (new ≡ record page { watts = without_pair node page.watts })
      → OnOk r (with_page now level new ≡ without_watts now level node)
  unfolding without_watts without_node
  forget_if_ok r new node ok =
      with_made r new (λ p. record p { watts = without_pair node p.watts }) (without_watts now level node) (paired (without_pair node (pairs_at now.watts level))) ok

  pub left_if_err : {T E : Type 0} (r : Result T E) (new : Content) → OnErr r (new ≡ page) → OnErr r (with_page now level new ≡ now)
  left_if_err (Ok done) new err = err
  left_if_err (Err fault) new err = ap (with_page now level) (err ∙ page_at_level) ∙ same_page now level

-- where no watts are listed for a node, none go
pub unlisted_kept : (now : Rows) (level node : ℕ) → value_at node (pairs_at now.watts level) ≡ None → now ≡ without_watts now level node
unfolding without_watts without_node with_pairs pairs_at
unlisted_kept now level node none =
    sym (ap (λ w. let r : Rows = record now { watts = set now.watts level w } in r) (no_value_kept node (get_or now.watts level []) none)
    ∙ ap (λ w. let r : Rows = record now { watts = w } in r) (set-get_or now.watts level []))

pub room_kept : (now : Rows) (level node : ℕ) → HasRoom now → HasRoom (without_watts now level node)
unfolding without_watts
room_kept now level node room = record { load_low = room.load_low; load_high = room.load_high; generation_low = room.generation_low; generation_high = room.generation_high }

-- ---- levels from the start

pub none_ordered : (order : List ℕ) (pages : List Content) → order ≡ [] → pages ≡ [] → IsOrder order (length pages)
unfolding AreKeys
none_ordered order pages none no_page = rw (none, no_page) (record { long = refl; keys = tt })

pub none_seen : (order : List ℕ) (pages : List Content) → order ≡ [] → rows_of order pages (pos 0) (pos 0) ≡ no_rows
unfolding rows_of
none_seen order pages none = rw none refl

-- a page more, last
pub rows_more : (pages : List Content) (i last : ℕ) (item page : Content) (before after : Rows) → i < length pages → item ≡ get_or pages i item → page ≡ item → before ≡ rows_in (take i pages)
    → last ≡ length before.opened → last ≡ length before.retained → last ≡ length before.watts → after ≡ with_page_at before last page → after ≡ rows_in (take (i + 1) pages)
unfolding rows_in with_page_at
rows_more pages i last item page before after lt read same are long too also more =
    let rows : (List (List Bool)) → (List (List Bool)) → (List (List NodeWatts)) → Rows = λ o r w. record before { opened = o; retained = r; watts = w } in
    let zero_sums : (List (List Bool)) → (List (List Bool)) → (List (List NodeWatts)) → Rows = λ o r w. record { opened = o; retained = r; watts = w; load = pos 0; generation = pos 0 } in
    let p : Content = get_or pages i item in
    let front = take i pages in
    more
    ∙ ap (λ n. rows (insert before.opened n page.opened) (insert before.retained last page.retained) (insert before.watts last page.watts)) long
    ∙ ap (λ n. rows (insert before.opened (length before.opened) page.opened) (insert before.retained n page.retained) (insert before.watts last page.watts)) too
    ∙ ap (λ n. rows (insert before.opened (length before.opened) page.opened) (insert before.retained (length before.retained) page.retained) (insert before.watts n page.watts)) also
    ∙ ap (λ z. rows z (insert before.retained (length before.retained) page.retained) (insert before.watts (length before.watts) page.watts)) (insert_end before.opened page.opened)
    ∙ ap (λ z. rows (before.opened ++ page.opened ∷ []) z (insert before.watts (length before.watts) page.watts)) (insert_end before.retained page.retained)
    ∙ ap (λ z. rows (before.opened ++ page.opened ∷ []) (before.retained ++ page.retained ∷ []) z) (insert_end before.watts page.watts)
    ∙ ap (λ (z : Rows). let r : Rows = record z { opened = z.opened ++ page.opened ∷ []; retained = z.retained ++ page.retained ∷ []; watts = z.watts ++ page.watts ∷ [] } in r) are
    ∙ ap (λ (q : Content). zero_sums (map (λ (x : Content). x.opened) front ++ q.opened ∷ []) (map (λ (x : Content). x.retained) front ++ q.retained ∷ []) (map (λ (x : Content). x.watts) front ++ q.watts ∷ [])) (same ∙ read)
    ∙ ap (λ z. zero_sums z (map (λ (x : Content). x.retained) front ++ p.retained ∷ []) (map (λ (x : Content). x.watts) front ++ p.watts ∷ [])) (sym (map_more (λ (x : Content). x.opened) pages i item lt))
    ∙ ap (λ z. zero_sums (map (λ (x : Content). x.opened) (take (i + 1) pages)) z (map (λ (x : Content). x.watts) front ++ p.watts ∷ [])) (sym (map_more (λ (x : Content). x.retained) pages i item lt))
    ∙ ap (λ z. zero_sums (map (λ (x : Content). x.opened) (take (i + 1) pages)) (map (λ (x : Content). x.retained) (take (i + 1) pages)) z) (sym (map_more (λ (x : Content). x.watts) pages i item lt))
