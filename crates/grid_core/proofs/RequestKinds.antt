-- What the requests of one kind have in common.
use Rattle.std.proofs.Common.{◌≡◌, refl, ℕ, Bool, true, false, List, []}
use Rattle.std.proofs.lemmas.Bool.{false≢true}
use Rattle.grid_structure.specs.Network.{Network}
use Rattle.grid_requests.specs.declared.request.Request.{Request}
use Rattle.grid_requests.specs.declared.request.Request.TheVariants as requests
use Rattle.grid_requests.specs.Changes.{structure_after}
use Rattle.grid_core.specs.declared.reply.Reply.TheVariants as replies
use Rattle.grid_core.specs.declared.reply.Refusal.{Refusal}
use Rattle.grid_core.specs.History.{Command, command, live_after, name_after, working, is_switching, edit_passes, clones_into}
use Rattle.grid_core.specs.Replies.{reply, reply_to, reply_on, events_of}
use Rattle.grid_core.specs.Verdicts.{asks}

-- a request that asks of the worker's variant
unfoldable pub of_variant : Request → Bool
of_variant (requests.UseVariant name) = false
of_variant (requests.CloneVariant from to overwrite) = false
of_variant (requests.RemoveVariant name) = false
of_variant (requests.Change edit) = false
of_variant other = true

pub switching_variant : (r : Request) → is_switching r ≡ true → of_variant r ≡ true
unfolding is_switching of_variant
switching_variant (requests.UseVariant name) h = h
switching_variant (requests.CloneVariant from to overwrite) h = h
switching_variant (requests.RemoveVariant name) h = h
switching_variant (requests.Change edit) h = h
switching_variant other h = refl

pub asks_variant : (r : Request) → asks r ≡ true → of_variant r ≡ true
unfolding asks of_variant
asks_variant (requests.UseVariant name) h = h
asks_variant (requests.CloneVariant from to overwrite) h = h
asks_variant (requests.RemoveVariant name) h = h
asks_variant (requests.Change edit) h = h
asks_variant other h = refl

-- such a request leaves the structure, the live names and the working names, and clones nothing; its reply is that of the
-- worker's variant
pub record OfVariant (r : Request) : Type 0 where
  pub structure_stays : (net : Network) → structure_after net r ≡ net
  pub live_stays : (names : List (List ℕ)) → live_after names r ≡ names
  pub name_stays : (names : List (List ℕ)) (mine : Bool) (name : List ℕ) → name_after names mine r name ≡ name
  pub no_edit : (net : Network) → edit_passes net r ≡ false
  pub no_clone : (before : List Command) (v : List ℕ) → clones_into before r v ≡ false
  pub replied : (origin : Network) (before : List Command) (worker : ℕ)
      → reply origin before (command worker r) ≡ reply_on origin before (working before worker) r

pub variant_request : (r : Request) → of_variant r ≡ true → OfVariant r
unfolding of_variant structure_after live_after name_after edit_passes clones_into reply reply_to
variant_request (requests.UseVariant name) h = absurd (false≢true h)
variant_request (requests.CloneVariant from to overwrite) h = absurd (false≢true h)
variant_request (requests.RemoveVariant name) h = absurd (false≢true h)
variant_request (requests.Change edit) h = absurd (false≢true h)
variant_request other h = record {
  structure_stays = λ net. refl;
  live_stays = λ names. refl;
  name_stays = λ names mine name. refl;
  no_edit = λ net. refl;
  no_clone = λ before v. refl;
  replied = λ origin before worker. refl;
}

-- a refusal has no event
pub refused_events : (v : List ℕ) (r : Request) (refusal : Refusal) → events_of v r (replies.Refused refusal) ≡ []
unfolding events_of
refused_events v (requests.Change edit) refusal = refl
refused_events v other refusal = refl
