use Rattle.std.proofs.Common.{◌≡◌, suc, ◌-◌, ◌<◌, [], ◌∷◌, ◌++◌, length, Some, None, refl, sym, ap, ap₂, ◌∙◌, arith, append_assoc, length-append}
use Rattle.std.proofs.lemmas.List.{append-nil}
use Rattle.json.specs.Token.{Token}
use Rattle.json.specs.Json.{parse_map, after_end_array, read_key, items, members, value}
use Rattle.json.specs.Reads.{token_of}
use Rattle.json.proofs.Grammar.{value_is, read_key-shorter}
use Rattle.serde_json.specs.Data.{array, object, item, no_members}
use Rattle.serde_json.specs.Read.{of_json, of_items, converted}
use Rattle.grid_value.specs.View.{data_of, listed_of, put_each}
use Rattle.grid_value.specs.declared.node.Node.TheVariants as nodes
use Rattle.grid_value.proofs.MemberLists.{unchanged, one_more, put_last, grown_leaf, patched, counted, map_ok}
use Rattle.grid_value.proofs.NodeSpellings.{one_more_item, all_items, one_more_member}
use Rattle.grid_value.proofs.Turns.{after, opens_array, opens_object, array_too_deep, object_too_deep, item_turn, item_refused, items_done, member_turn, member_refused, name_refused, members_done}
use Rattle.grid_value.proofs.read.+read.Goals as goal

-- ---- no value

pub read-returns-in_err-token-clause-err : goal.read-returns-in_err-token-clause-err
read-returns-in_err-token-clause-err t c refused =
    let none : c.args.reader.now ≡ [] = grind arith in
    ap (λ ts. converted of_json (value c.args.depth ts)) none ∙ ap (converted of_json) (value_is c.args.depth [])

pub read-returns-in-None-clause-err : goal.read-returns-in-None-clause-err
read-returns-in-None-clause-err t c refused =
    let first : c.args.reader.now ≡ Token.number c.in-Number.text.now ∷ c.next.new.self = grind arith in
    ap (λ ts. converted of_json (value c.args.depth ts)) first ∙ ap (converted of_json) (value_is c.args.depth _) ∙ rw (← c.in-None.ensures)

pub read-returns-in-EndObject-clause-err : goal.read-returns-in-EndObject-clause-err
read-returns-in-EndObject-clause-err t c refused =
    let first : c.args.reader.now ≡ token_of c.in_ok-token.token ∷ c.next.new.self = grind arith in
    let none : value c.args.depth c.args.reader.now ≡ None = rw (value_is c.args.depth c.args.reader.now, first) (grind arith) in
    ap (converted of_json) none

pub read_array-returns-then-depth-eq0-clause-err : goal.read_array-returns-then-depth-eq0-clause-err
read_array-returns-then-depth-eq0-clause-err t c refused = array_too_deep c.args.depth (Token.begin_array ∷ c.args.reader.now) c.args.reader.now (omega arith) refl

pub read_object-returns-then-depth-eq0-clause-err : goal.read_object-returns-then-depth-eq0-clause-err
read_object-returns-then-depth-eq0-clause-err t c refused = object_too_deep c.args.depth (Token.begin_object ∷ c.args.reader.now) c.args.reader.now (omega arith) refl

pub read_array-returns-in_err-read_items-clause-err : goal.read_array-returns-in_err-read_items-clause-err
read_array-returns-in_err-read_items-clause-err t c refused =
    opens_array c.args.depth (Token.begin_array ∷ c.args.reader.now) c.args.reader.now (omega arith) refl ∙ ap (parse_map array) (c.read_items.ensures.err (grind arith))

pub read_object-returns-in_err-read_members-clause-err : goal.read_object-returns-in_err-read_members-clause-err
read_object-returns-in_err-read_members-clause-err t c refused =
    opens_object c.args.depth (Token.begin_object ∷ c.args.reader.now) c.args.reader.now (omega arith) refl ∙ ap (parse_map object) (c.read_members.ensures.err (grind arith))

-- ---- a value that opens nothing

pub read-returns-in-String-clause-ok : goal.read-returns-in-String-clause-ok
read-returns-in-String-clause-ok t c =
    let first : c.args.reader.now ≡ Token.string c.in-String.text.now ∷ c.next.new.self = grind arith in
    let is = ap (λ ts. converted of_json (value c.args.depth ts)) first ∙ ap (converted of_json) (value_is c.args.depth _) in
    map_ok c.append.result (λ same. grown_leaf (nodes.Text c.in-String.text) (converted of_json (value c.args.depth c.args.reader.now)) c.next.new.self same refl is) c.append.ensures.ok

pub read-returns-in-Bool-clause-ok : goal.read-returns-in-Bool-clause-ok
read-returns-in-Bool-clause-ok t c =
    let first : c.args.reader.now ≡ Token.boolean c.in-Bool.flag ∷ c.next.new.self = grind arith in
    let is = ap (λ ts. converted of_json (value c.args.depth ts)) first ∙ ap (converted of_json) (value_is c.args.depth _) in
    map_ok c.append-in-Bool.result (λ same. grown_leaf (nodes.Bool c.in-Bool.flag) (converted of_json (value c.args.depth c.args.reader.now)) c.next.new.self same refl is) c.append-in-Bool.ensures.ok

pub read-returns-in-Null-clause-ok : goal.read-returns-in-Null-clause-ok
read-returns-in-Null-clause-ok t c =
    let first : c.args.reader.now ≡ Token.null ∷ c.next.new.self = grind arith in
    let is = ap (λ ts. converted of_json (value c.args.depth ts)) first ∙ ap (converted of_json) (value_is c.args.depth _) in
    map_ok c.append-in-Null.result (λ same. grown_leaf (nodes.Null) (converted of_json (value c.args.depth c.args.reader.now)) c.next.new.self same refl is) c.append-in-Null.ensures.ok

pub read-returns-in-Some-clause-ok : goal.read-returns-in-Some-clause-ok
read-returns-in-Some-clause-ok t c =
    let first : c.args.reader.now ≡ Token.number c.in-Number.text.now ∷ c.next.new.self = grind arith in
    let node = nodes.Number c.in-Some.number in
    let is : converted of_json (value c.args.depth c.args.reader.now) ≡ Some (data_of node [], c.next.new.self) = ap (λ ts. converted of_json (value c.args.depth ts)) first ∙ ap (converted of_json) (value_is c.args.depth _) ∙ rw (← c.in-Some.ensures) refl in
    map_ok c.append-in-Some.result (λ same. grown_leaf node (converted of_json (value c.args.depth c.args.reader.now)) c.next.new.self same refl is) c.append-in-Some.ensures.ok

-- ---- arrays and objects

pub read_array-returns-clause-ok : goal.read_array-returns-clause-ok
read_array-returns-clause-ok t c =
    let old = c.args.nodes.now.items in
    let one = c.append.new.nodes.items in
    let new = c.read_items.new.nodes.items in
    let grown = c.in_ok-read_items.ensures.ok in
    let pushed = c.in_ok-append.ensures.ok in
    let place = c.len-place.result in
    let n = c.len.result - place - 1 in
    let here : place ≡ length old = omega (arith, c.len-place.ensures, c.args.nodes.now.ok) in
    let count : c.len.result ≡ length new = omega (arith, c.len.ensures, c.read_items.new.nodes.ok) in record {
      head = nodes.Array n;
      body = grown.body;
      same = patched old one new grown.body (nodes.Array 0) (nodes.Array n) place here pushed grown.same;
      whole = counted old new grown.body (nodes.Array 0) place c.len.result here count (grown.same ∙ ap (λ ns. ns ++ grown.body) pushed);
      is = opens_array c.args.depth (Token.begin_array ∷ c.args.reader.now) c.args.reader.now (omega arith) refl ∙ ap (parse_map array) grown.is;
    }

pub read_object-returns-clause-ok : goal.read_object-returns-clause-ok
read_object-returns-clause-ok t c =
    let old = c.args.nodes.now.items in
    let one = c.append.new.nodes.items in
    let new = c.read_members.new.nodes.items in
    let grown = c.in_ok-read_members.ensures.ok in
    let pushed = c.in_ok-append.ensures.ok in
    let place = c.len-place.result in
    let n = c.len.result - place - 1 in
    let here : place ≡ length old = omega (arith, c.len-place.ensures, c.args.nodes.now.ok) in
    let count : c.len.result ≡ length new = omega (arith, c.len.ensures, c.read_members.new.nodes.ok) in record {
      head = nodes.Object n;
      body = grown.body;
      same = patched old one new grown.body (nodes.Object 0) (nodes.Object n) place here pushed grown.same;
      whole = counted old new grown.body (nodes.Object 0) place c.len.result here count (grown.same ∙ ap (λ ns. ns ++ grown.body) pushed);
      is = opens_object c.args.depth (Token.begin_object ∷ c.args.reader.now) c.args.reader.now (omega arith) refl ∙ ap (parse_map object) grown.is;
    }

-- ---- items

pub read_items-items-init : goal.read_items-items-init
read_items-items-init t c = record {
  n = length c.args.reader.now;
  enough = omega arith;
  body = [];
  same = sym (append-nil c.args.nodes.now.items);
  front = λ ds. ds;
  spelled = λ rest. refl;
  read = unchanged _;
  shorter = omega arith;
}

pub read_items-returns-in_err-read-clause-err : goal.read_items-returns-in_err-read-clause-err
read_items-returns-in_err-read-clause-err t c refused =
    let l = c.items in
    let more_come : (after_end_array l.reader ≡ None) × (c.take_end_array.new.self ≡ l.reader) = grind arith in
    l.invariant.read ∙ ap (parse_map l.invariant.front) (item_refused (value c.args.depth) l.invariant.n l.reader more_come.0 (rw (← more_come.1) (c.read.ensures.err (grind arith))))

pub read_items-items-preserved : goal.read_items-items-preserved
read_items-items-preserved t c =
    let parse = value c.args.depth in
    let l = c.items in
    let inv = l.invariant in
    let more_come : (after_end_array l.reader ≡ None) × (c.take_end_array.new.self ≡ l.reader) = grind arith in
    let grown = c.in_ok-read.ensures.ok in
    let d = data_of grown.head grown.body in
    let rest = c.read.new.reader in
    let less : length rest < length l.reader = rw (← more_come.1) c.in_ok-read.ensures.shorter in
    let turn = item_turn parse inv.n l.reader rest d (omega (arith, inv.enough)) more_come.0 (rw (← more_come.1) grown.is) in record {
      n = inv.n - 1;
      enough = omega (arith, inv.enough);
      body = inv.body ++ grown.head ∷ grown.body;
      same = grown.same ∙ ap (λ ns. ns ++ grown.head ∷ grown.body) inv.same ∙ append_assoc c.args.nodes.now.items inv.body (grown.head ∷ grown.body);
      front = λ ds. inv.front (item d ds);
      spelled = one_more_item inv.body grown.body inv.front grown.head grown.whole inv.spelled;
      read = inv.read ∙ ap (parse_map inv.front) turn ∙ one_more inv.front (item d) (converted of_items (items parse (inv.n - 1) rest));
      shorter = omega (arith, inv.shorter);
    }

pub read_items-returns-clause-ok : goal.read_items-returns-clause-ok
read_items-returns-clause-ok t c =
    let inv = c.items.invariant in
    let rest = c.take_end_array.new.self in record {
      body = inv.body;
      same = inv.same;
      is = inv.read ∙ ap (parse_map inv.front) (items_done (value c.args.depth) inv.n c.items.reader rest inv.enough (grind arith))
          ∙ ap (λ ds. Some (ds, rest)) (all_items inv.body inv.front inv.spelled);
    }

-- ---- members

pub read_members-members-init : goal.read_members-members-init
unfolding listed_of
read_members-members-init t c = record {
  n = length c.args.reader.now;
  enough = omega arith;
  body = [];
  same = sym (append-nil c.args.nodes.now.items);
  read = refl;
  shorter = omega arith;
}

pub read_members-returns-in_err-name-clause-err : goal.read_members-returns-in_err-name-clause-err
read_members-returns-in_err-name-clause-err t c refused =
    let inv = c.members.invariant in
    inv.read ∙ name_refused (value c.args.depth) (put_each (listed_of inv.body) no_members) inv.n c.members.reader c.in_err-name.ensures.value

pub read_members-returns-in_err-read-clause-err : goal.read_members-returns-in_err-read-clause-err
read_members-returns-in_err-read-clause-err t c refused =
    let inv = c.members.invariant in
    let key : read_key c.members.reader ≡ Some (Some c.in-Some.name.now, c.next_key.new.self) = grind arith in
    inv.read ∙ member_refused (value c.args.depth) (put_each (listed_of inv.body) no_members) inv.n c.in-Some.name.now c.members.reader c.next_key.new.self key (c.read.ensures.err (grind arith))

pub read_members-members-preserved : goal.read_members-members-preserved
read_members-members-preserved t c =
    let parse = value c.args.depth in
    let l = c.members in
    let inv = l.invariant in
    let name = c.in-Some.name in
    let behind = c.next_key.new.self in
    let key : read_key l.reader ≡ Some (Some name.now, behind) = grind arith in
    let grown = c.in_ok-read.ensures.ok in
    let d = data_of grown.head grown.body in
    let part = grown.head ∷ grown.body in
    let rest = c.read.new.reader in
    let less = read_key-shorter l.reader (Some name.now) behind key in
    let lesser = c.in_ok-read.ensures.shorter in
    let old = c.args.nodes.now.items in
    let count = c.len.result - c.len-place.result in
    let k = nodes.Name count name in
    let here : c.len-place.result ≡ length l.nodes.items = omega (arith, c.len-place.ensures, l.nodes.ok) in
    let there : c.len.result ≡ length c.read.new.nodes.items = omega (arith, c.len.ensures, c.read.new.nodes.ok) in
    let long = ap length grown.same ∙ length-append l.nodes.items part in
    let whole : count ≡ suc (length grown.body) = omega (arith, here, there, long) in
    let more : listed_of (inv.body ++ (part ++ k ∷ [])) ≡ listed_of inv.body ++ (name.now, d) ∷ [] = one_more_member inv.body grown.body k grown.head whole in record {
      n = inv.n - 1;
      enough = omega (arith, inv.enough);
      body = inv.body ++ (part ++ k ∷ []);
      same = c.in_ok-append.ensures.ok ∙ ap₂ (λ ns m. ns ++ m ∷ []) (grown.same ∙ ap (λ ns. ns ++ part) inv.same) c.in_ok-name_node.ensures.ok
          ∙ append_assoc (old ++ inv.body) part (k ∷ []) ∙ append_assoc old inv.body (part ++ k ∷ []);
      read = inv.read ∙ member_turn parse (put_each (listed_of inv.body) no_members) inv.n name.now l.reader behind rest d (omega (arith, inv.enough)) key grown.is
          ∙ ap (λ ms. after ms (members parse (inv.n - 1) rest)) (sym (ap (λ ms. put_each ms no_members) more ∙ put_last (listed_of inv.body) name.now d no_members));
      shorter = omega (arith, inv.shorter);
    }

pub read_members-returns-clause-ok : goal.read_members-returns-clause-ok
read_members-returns-clause-ok t c =
    let inv = c.members.invariant in
    let rest = c.next_key.new.self in record {
      body = inv.body;
      same = inv.same;
      is = inv.read ∙ members_done (value c.args.depth) (put_each (listed_of inv.body) no_members) inv.n c.members.reader rest inv.enough (grind arith);
    }
