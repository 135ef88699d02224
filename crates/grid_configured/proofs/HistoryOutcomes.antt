-- What comes of a history: the steps with their replies, and the live variants.
use Rattle.std.proofs.Common.{◌≡◌, refl, sym, ap, ◌∙◌, ℕ, ◌+◌, List, [], ◌∷◌, ◌++◌, length, length-append, map, arith}
use Rattle.std.specs.Prelude.{zip}
use Rattle.std.proofs.lemmas.List.{map-append}
use Rattle.grid_structure.specs.Network.{Network}
use Rattle.grid_core.specs.declared.journal.Entry.{Entry}
use Rattle.grid_core.specs.History.{Command}
use Rattle.grid_core.specs.Journals.{journal_of, entry_of}
use Rattle.grid_configured.specs.declared.network.ConfiguredNetwork.{ConfiguredNetwork}
use Rattle.grid_configured.specs.declared.reply.ConfiguredReply.{ConfiguredReply}
use Rattle.grid_configured.specs.declared.outcome.ConfiguredVariant.{ConfiguredVariant}
use Rattle.grid_configured.specs.Histories.{ConfiguredHistory, reply}
use Rattle.grid_configured.specs.Texts.{Told, Report}
use Rattle.grid_configured.specs.Outcomes.{told_pair, told_of, reported}
use Rattle.grid_configured.specs.Reports.{told_step, told_steps, replies_of, variant_views, report_after}

-- ---- a journal with its replies

zip_last : (journal : List Entry) (replies : List ConfiguredReply) (e : Entry) (r : ConfiguredReply) → length replies ≡ length journal → zip (journal ++ e ∷ []) (replies ++ r ∷ []) ≡ zip journal replies ++ (e, r) ∷ []
zip_last [] [] e r even = refl
zip_last [] (q ∷ replies) e r even = absurd (omega (arith, even))
zip_last (x ∷ journal) [] e r even = absurd (omega (arith, even))
zip_last (x ∷ journal) (q ∷ replies) e r even = ap (λ l. (x, q) ∷ l) (zip_last journal replies e r (omega (arith, even)))

told_last : (journal : List Entry) (replies : List ConfiguredReply) (e : Entry) (r : ConfiguredReply) → length replies ≡ length journal → told_of (journal ++ e ∷ []) (replies ++ r ∷ []) ≡ told_of journal replies ++ told_pair (e, r) ∷ []
unfolding told_of
told_last journal replies e r even = ap (map told_pair) (zip_last journal replies e r even) ∙ map-append told_pair (zip journal replies) ((e, r) ∷ [])

none_told : told_of [] [] ≡ []
unfolding told_of
none_told = refl

-- there are as many of one as of the other
pub evenly : (origin : Network) (network : ConfiguredNetwork) (steps : List Command) → length (replies_of network steps) ≡ length (journal_of origin steps)
unfolding replies_of journal_of
evenly origin network [] = refl
evenly origin network (step ∷ before) =
    length-append (replies_of network before) (reply network before step ∷ [])
    ∙ ap (λ n. n + 1) (evenly origin network before)
    ∙ sym (length-append (journal_of origin before) (entry_of origin before step ∷ []))

-- the journal is that of another form of the network, with its own replies
pub tells : (origin : Network) (network : ConfiguredNetwork) (steps : List Command) → told_of (journal_of origin steps) (replies_of network steps) ≡ told_steps network steps
unfolding replies_of journal_of entry_of told_steps told_step
tells origin network [] = none_told
tells origin network (step ∷ before) =
    told_last (journal_of origin before) (replies_of network before) (entry_of origin before step) (reply network before step) (evenly origin network before)
    ∙ ap (λ l. l ++ told_step network before step ∷ []) (tells origin network before)

-- what came of a history
pub came : (origin : Network) (world : ConfiguredHistory) (journal : List Entry) (replies : List ConfiguredReply) (workers : ℕ) (views : List ConfiguredVariant) → journal ≡ journal_of origin world.steps
    → replies ≡ replies_of world.network world.steps → workers ≡ world.workers → views ≡ variant_views world.network world.steps → reported journal replies workers views ≡ report_after world
unfolding report_after
came origin world journal replies workers views is_journal is_replies is_workers is_views =
    let with_told : List Told → ℕ → List ConfiguredVariant → Report = λ told many seen. record { told = told; workers = many; views = seen } in
    ap (λ j. with_told (told_of j replies) workers views) is_journal
    ∙ ap (λ r. with_told (told_of (journal_of origin world.steps) r) workers views) is_replies
    ∙ ap (λ t. with_told t workers views) (tells origin world.network world.steps)
    ∙ ap (λ n. with_told (told_steps world.network world.steps) n views) is_workers
    ∙ ap (with_told (told_steps world.network world.steps) world.workers) is_views

-- ---- variants
