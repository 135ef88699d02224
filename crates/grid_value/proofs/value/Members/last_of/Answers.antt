use Rattle.std.proofs.Common.{◌≡◌, true, false, Some, refl, sym, ap, ◌∙◌, bytes_eq, arith}
use Rattle.serde_json.specs.Data.{no_members}
use Rattle.serde_json.specs.Find.{get_member}
use Rattle.grid_value.specs.View.{listed, members_view, put_each, data_at}
use Rattle.grid_value.proofs.MemberLists.{put_last, found_at}
use Rattle.grid_value.proofs.value.Members.last_of.Goals as goal

pub loop-known-init : goal.loop-known-init
loop-known-init c = refl

pub returns-then-same_text : goal.returns-then-same_text
returns-then-same_text c =
    let name = c.args.name.now in
    let known = c.in-Some.known.now in
    let d = data_at c.in-Some.nodes.now in
    let left = members_view c.pass_back.new.self in
    let same : bytes_eq known name ≡ true = grind arith in
    sym (c.loop-known.invariant ∙ ap (λ ms. get_member name (put_each ms no_members)) c.in-Some.ensures ∙ ap (get_member name) (put_last (listed c.pass_back.new.self) known d no_members)
    ∙ found_at name known d left true same ∙ ap Some (sym c.of.ensures))

pub loop-known-preserved : goal.loop-known-preserved
loop-known-preserved c =
    let name = c.args.name.now in
    let known = c.in-Some.known.now in
    let d = data_at c.in-Some.nodes.now in
    let left = members_view c.pass_back.new.self in
    let other : bytes_eq known name ≡ false = grind arith in
    c.loop-known.invariant ∙ ap (λ ms. get_member name (put_each ms no_members)) c.in-Some.ensures ∙ ap (get_member name) (put_last (listed c.pass_back.new.self) known d no_members)
    ∙ found_at name known d left false other
