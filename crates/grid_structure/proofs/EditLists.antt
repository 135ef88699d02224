-- Edits one after the other, in two parts.
use Rattle.std.proofs.Common.{◌≡◌, refl, sym, ℕ, ℤ, pos, List, [], ◌∷◌, ◌++◌}
use Rattle.std.specs.Prelude.{Result, Ok, Err}
use Rattle.grid_ids.specs.Refusing.{◌>>=◌}
use Rattle.grid_kinds.specs.declared.Injection.{Injection}
use Rattle.grid_level.specs.declared.Stand.{Stand}
use Rattle.grid_level.specs.declared.Stand.TheVariants.{Busbar, Feeder}
use Rattle.grid_structure.specs.declared.Edit.{Edit}
use Rattle.grid_structure.specs.declared.Edit.TheVariants as edits
use Rattle.grid_structure.specs.declared.EditFault.{EditFault}
use Rattle.grid_structure.specs.Network.{Network}
use Rattle.grid_structure.specs.Editing.{apply}
use Rattle.grid_structure.specs.Loading.{apply_each, busbar_edits, injection_edits}

-- one edit, and then those behind it
pub first_then : (net mid : Network) (edit : Edit) (later : List Edit) (end : Result Network EditFault) → apply net edit ≡ Ok mid → apply_each mid later ≡ end → apply_each net (edit ∷ later) ≡ end
unfolding apply_each
first_then net mid edit later end one rest = rw (one, rest) refl

-- the first edits, and then those behind them
pub both_parts : (net mid : Network) (front back : List Edit) (end : Result Network EditFault) → apply_each net front ≡ Ok mid → apply_each mid back ≡ end → apply_each net (front ++ back) ≡ end
unfolding apply_each
both_parts net mid [] back end one rest = let same : net ≡ mid = cc in rw (same, rest) refl
both_parts net mid (edit ∷ front) back end one rest = by (apply net edit) refl one (λ new. both_parts new mid front back end)
  where
    by : (r : Result Network EditFault) → apply net edit ≡ r → apply_each net (edit ∷ front) ≡ Ok mid → ((new : Network) → apply_each new front ≡ Ok mid → apply_each mid back ≡ end → apply_each new (front ++ back) ≡ end)
        → apply_each net ((edit ∷ front) ++ back) ≡ end
    by (Ok new) e all again = rw e (again new (rw e at all) rest)
    by (Err fault) e all again = let no = rw e at all in cc

-- edits of which none is refused stand in two parts of which none is refused
pub record Parted (net : Network) (front back : List Edit) (end : Network) : Type 0 where
  pub mid : Network
  pub first : apply_each net front ≡ Ok mid
  pub second : apply_each mid back ≡ Ok end

pub parted : (net : Network) (front back : List Edit) (end : Network) → apply_each net (front ++ back) ≡ Ok end → Parted net front back end
unfolding apply_each
parted net [] back end all = record { mid = net; first = refl; second = all }
parted net (edit ∷ front) back end all = by (apply net edit) refl all (λ new. parted new front back end)
  where
    by : (r : Result Network EditFault) → apply net edit ≡ r → apply_each net ((edit ∷ front) ++ back) ≡ Ok end → ((new : Network) → apply_each new (front ++ back) ≡ Ok end → Parted new front back end) → Parted net (edit ∷ front) back end
    by (Ok new) e done again = let k = again new (rw e at done) in record { mid = k.mid; first = rw e k.first; second = k.second }
    by (Err fault) e done again = let no = rw e at done in cc

-- the first of edits of which none is refused
pub record First (net : Network) (edit : Edit) (later : List Edit) (end : Network) : Type 0 where
  pub new : Network
  pub first : apply net edit ≡ Ok new
  pub second : apply_each new later ≡ Ok end

pub first_of : (net : Network) (edit : Edit) (later : List Edit) (end : Network) → apply_each net (edit ∷ later) ≡ Ok end → First net edit later end
unfolding apply_each
first_of net edit later end all = by (apply net edit) refl all
  where
    by : (r : Result Network EditFault) → apply net edit ≡ r → apply_each net (edit ∷ later) ≡ Ok end → First net edit later end
    by (Ok new) e done = record { new = new; first = e; second = rw e at done }
    by (Err fault) e done = let no = rw e at done in cc

-- ---- one edit

pub lone : (net : Network) (edit : Edit) → apply_each net (edit ∷ []) ≡ apply net edit
unfolding apply_each
lone net edit = by (apply net edit)
  where
    by : (r : Result Network EditFault) → (r >>= λ (new : Network). Ok new) ≡ r
    by (Ok new) = refl
    by (Err fault) = refl

-- the edit of a node where a busbar section stands
pub busbar_alone : (net : Network) (level id : List ℕ) (node : ℕ) (stand : Stand) (z : ℤ) → stand ≡ Busbar → z ≡ pos node → apply net (edits.AddBusbar id level z) ≡ apply_each net (busbar_edits level id node stand)
busbar_alone net level id node stand z is at = rw (is, at) (sym (lone net (edits.AddBusbar id level (pos node))))

-- the edit of a node where an injection stands
pub injection_alone : (net : Network) (level id : List ℕ) (node : ℕ) (stand : Stand) (z : ℤ) (item : Injection) → stand ≡ Feeder item → z ≡ pos node → apply net (edits.AddInjection id level z item) ≡ apply_each net (injection_edits level id node stand)
injection_alone net level id node stand z item is at = rw (is, at) (sym (lone net (edits.AddInjection id level (pos node) item)))
