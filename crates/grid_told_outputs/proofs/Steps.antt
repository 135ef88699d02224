-- The line of kind `state` is readable, and tells the counts of commands and the first refused step.
use Rattle.std.proofs.Common.{◌≡◌, ℕ, Bool, true, false, List, [], ◌∷◌, Option, Some, None, cond, length, refl, sym, ap, ◌∙◌, subst, arith}
use Rattle.std.specs.Prelude.{IfSome, codes, find, option_map}
use Rattle.std.specs.List.{AllByRecursion}
use Rattle.std.proofs.lemmas.Bool.{false≢true}
use Rattle.std.proofs.lemmas.List.Sums.{count_by-le-length}
use Rattle.serde_json.specs.Data.{Data, string}
use Rattle.serde_json.specs.Find.{get}
use Rattle.grid_requests.specs.declared.request.Request.{Request}
use Rattle.grid_core.specs.declared.journal.Entry.{Entry}
use Rattle.grid_core.specs.declared.reply.Refusal.{Refusal}
use Rattle.grid_core.specs.declared.reply.Reply.{Reply}
use Rattle.grid_core.specs.declared.reply.Reply.TheVariants as replies
use Rattle.grid_print.specs.Objects.{natural, given}
use Rattle.grid_print.specs.Command.{request_value}
use Rattle.grid_print.proofs.Each.{each_of}
use Rattle.grid_jsonl.specs.Trees.{ordered}
use Rattle.grid_jsonl.specs.Replies.{reply_value}
use Rattle.grid_jsonl.specs.Steps.{Step, steps, step_fields, step_value, is_refused, refused_count, first_refused, state_value}
use Rattle.grid_jsonl.specs.Outcomes.{command_object}
use Rattle.grid_told.specs.Held.{IsUnsigned}
use Rattle.grid_told.specs.Requested.{IsRequest}
use Rattle.grid_told.specs.Outcomes.{IsEntry, IsReply, Fits}
use Rattle.grid_told.specs.Shapes.{IsReadable}
use Rattle.grid_told.proofs.Fields.{natural_of, at}
use Rattle.grid_told.proofs.Readable.{word_readable, text_readable, natural_readable, ordered_readable, deeper}
use Rattle.grid_told.proofs.Commands.{request_readable}
use Rattle.grid_told.proofs.Replies.{reply_readable}
use Rattle.grid_told.proofs.Objects.{IsStep, steps_held}
use Rattle.grid_told.proofs.CommandObjects.{said_in, said_back}
use Rattle.grid_told_outputs.specs.Steps.{IsJournal, StepSaid, step_said, StepsAlike}

-- ---- the reply of a refused step

refusal_of : (reply : Reply) → is_refused reply ≡ true → (refusal : Refusal) × (reply ≡ replies.Refused refusal)
unfolding is_refused
refusal_of (replies.Refused refusal) h = (refusal, refl)
refusal_of other h = absurd (false≢true h)

refused_fits : (r : Request) (reply : Reply) → is_refused reply ≡ true → Fits r reply
refused_fits r reply h = let pair = refusal_of reply h in subst (Fits r) (sym pair.1) tt

-- a refusal nests less deep than views do
refusal_readable : (r : Request) (refusal : Refusal) → IsRequest r → IsReply (replies.Refused refusal) → IsReadable 4 (reply_value r (replies.Refused refusal))
unfolding reply_value ordered
refusal_readable r refusal known h =
    let read = reply_readable r (replies.Refused refusal) known h in
    record { wholes = read.wholes; texts = read.texts; names = read.names; within = omega arith }

refused_readable : (r : Request) (reply : Reply) → IsRequest r → IsReply reply → is_refused reply ≡ true → IsReadable 4 (reply_value r reply)
refused_readable r reply known h refused =
    let pair = refusal_of reply refused in
    subst (λ x. IsReadable 4 (reply_value r x)) (sym pair.1) (refusal_readable r pair.0 known (subst IsReply pair.1 h))

-- ---- the first refused step

abbrev IsRefusedStep : Step → Type 0
IsRefusedStep s = IsStep s × (is_refused s.entry.reply ≡ true)

found_held : (all : List Step) → AllByRecursion IsStep all → IfSome (find (λ s. is_refused s.entry.reply) all) IsRefusedStep
found_held [] h = tt
found_held (s ∷ all) h = by (is_refused s.entry.reply) refl (found_held all h.1)
  where
    by : (b : Bool) → is_refused s.entry.reply ≡ b → IfSome (find (λ s. is_refused s.entry.reply) all) IsRefusedStep → IfSome (cond b (Some s) (find (λ s. is_refused s.entry.reply) all)) IsRefusedStep
    by true is rest = (h.0, is)
    by false is rest = rest

first_held : (journal : List Entry) → IsJournal journal → IfSome (first_refused journal) IsRefusedStep
unfolding first_refused
first_held journal h = found_held (steps journal) (steps_held journal h.commands (each_of IsEntry journal h.entries))

-- ---- readable

step_readable : (s : Step) → IsRefusedStep s → IsReadable 5 (step_value s)
unfolding step_fields
step_readable s h = ordered_readable 4 _ refl (
  natural_readable 4 s.place h.0.place,
  (
    natural_readable 4 s.entry.worker h.0.entry.worker,
    (
      natural_readable 4 s.number h.0.number,
      (
        text_readable 4 s.entry.variant h.0.entry.variant,
        (
          deeper 3 4 (request_value s.entry.request) (omega arith) (request_readable s.entry.request h.0.entry.request),
          (refused_readable s.entry.request s.entry.reply h.0.entry.request h.0.entry.reply h.1, tt),
        ),
      ),
    ),
  ),
)

-- the line by its counts and its step
abbrev state_by : ℕ → ℕ → Option Step → Data
state_by commands refused first =
    ordered ((codes "kind", string (codes "state")) ∷ (codes "commands", natural commands) ∷ (codes "refused", natural refused) ∷ given (codes "first_refused") step_value first)

by_readable : (commands refused : ℕ) (first : Option Step) → IsUnsigned commands → IsUnsigned refused → IfSome first IsRefusedStep → IsReadable 6 (state_by commands refused first)
by_readable commands refused None few less h = ordered_readable 5 _ refl (word_readable 5 _ refl, (natural_readable 5 commands few, (natural_readable 5 refused less, tt)))
by_readable commands refused (Some s) few less h = ordered_readable 5 _ refl (word_readable 5 _ refl, (natural_readable 5 commands few, (natural_readable 5 refused less, (step_readable s h, tt))))

pub state_readable : (journal : List Entry) → IsJournal journal → IsReadable 6 (state_value journal)
unfolding state_value refused_count
state_readable journal h =
    let few = count_by-le-length (λ (e : Entry). is_refused e.reply) journal in
    by_readable (length journal) (refused_count journal) (first_refused journal) h.commands (omega (arith, few, h.commands)) (first_held journal h)

-- ---- told

unfoldable step_in : Data → StepSaid
step_in d = record { place = natural_of (at (codes "place") d); number = natural_of (at (codes "step") d); said = said_in d }

-- a step by itself says what the line of its command says
same_said : (s : Step) → said_in (step_value s) ≡ said_in (command_object s)
unfolding said_in command_object step_fields ordered
same_said s = refl

step_back : (s : Step) → IsRefusedStep s → step_in (step_value s) ≡ step_said s
unfolding step_in step_said step_fields ordered
step_back s h =
    ap (λ said. record { place = s.place; number = s.number; said = said }) (same_said s ∙ said_back s (h.0.entry, refused_fits s.entry.request s.entry.reply h.1))

abbrev first_in : Data → Option StepSaid
first_in d = option_map step_in (get (codes "first_refused") d)

by_back : (commands refused : ℕ) (first : Option Step) → IfSome first IsRefusedStep → first_in (state_by commands refused first) ≡ option_map step_said first
unfolding ordered
by_back commands refused None h = refl
by_back commands refused (Some s) h = ap Some (step_back s h)

first_back : (journal : List Entry) → IsJournal journal → first_in (state_value journal) ≡ option_map step_said (first_refused journal)
unfolding state_value
first_back journal h = by_back (length journal) (refused_count journal) (first_refused journal) (first_held journal h)

commands_back : (journal : List Entry) → natural_of (at (codes "commands") (state_value journal)) ≡ length journal
unfolding state_value ordered
commands_back journal = refl

refused_back : (journal : List Entry) → natural_of (at (codes "refused") (state_value journal)) ≡ refused_count journal
unfolding state_value ordered
refused_back journal = refl

pub state_told : (journal other : List Entry) → IsJournal journal → IsJournal other → state_value journal ≡ state_value other → StepsAlike journal other
state_told journal other h k e = record {
  commands = sym (commands_back journal) ∙ ap (λ d. natural_of (at (codes "commands") d)) e ∙ commands_back other;
  refused = sym (refused_back journal) ∙ ap (λ d. natural_of (at (codes "refused") d)) e ∙ refused_back other;
  first_refused = sym (first_back journal h) ∙ ap first_in e ∙ first_back other k;
}
