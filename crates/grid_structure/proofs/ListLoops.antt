-- Edits of several parts, with what is told of them.
use Rattle.std.proofs.Common.{◌≡◌, refl, sym, ◌∙◌, subst, arith, length, List, [], ◌∷◌, ◌++◌}
use Rattle.std.specs.Prelude.{flat_map, Result, Ok, Err}
use Rattle.std.specs.Result.{IsErrAnd}
use Rattle.grid_structure.specs.declared.Edit.{Edit}
use Rattle.grid_structure.specs.declared.EditFault.{EditFault}
use Rattle.grid_structure.specs.declared.ApplyFault.{ApplyFault}
use Rattle.grid_structure.specs.declared.ApplyFault.TheVariants.{Refused, Memory}
use Rattle.grid_structure.specs.Network.{Network}
use Rattle.grid_structure.specs.Editing.{apply, IsTold}
use Rattle.grid_structure.specs.Loading.{apply_each}
use Rattle.grid_structure.specs.Lists.{IsMade}
use Rattle.grid_structure.proofs.EditLists.{first_then, both_parts}

-- ---- what is made

-- the first part is made, and then the second
pub made_on : (before mid after : Network) (front back : List Edit) (result : Result (Unit {0}) ApplyFault) → apply_each before front ≡ Ok mid → IsMade mid back after result → IsMade before (front ++ back) after result
made_on before mid after front back (Ok u) one rest = both_parts before mid front back (Ok after) one rest
made_on before mid after front back (Err (Refused fault)) one rest = both_parts before mid front back (Err fault) one rest
made_on before mid after front back (Err Memory) one rest = tt

-- one edit is made, and then those behind it
pub made_first : (before mid after : Network) (edit : Edit) (later : List Edit) (result : Result (Unit {0}) ApplyFault) → apply before edit ≡ Ok mid → IsMade mid later after result → IsMade before (edit ∷ later) after result
made_first before mid after edit later (Ok u) one rest = first_then before mid edit later (Ok after) one rest
made_first before mid after edit later (Err (Refused fault)) one rest = first_then before mid edit later (Err fault) one rest
made_first before mid after edit later (Err Memory) one rest = tt

-- ---- what is refused

stopped : (net : Network) (front back : List Edit) (fault : EditFault) → apply_each net front ≡ Err fault → apply_each net (front ++ back) ≡ Err fault
unfolding apply_each
stopped net [] back fault is = cc
stopped net (edit ∷ front) back fault is = by (apply net edit) refl is (λ new. stopped new front back fault)
  where
    by : (r : Result Network EditFault) → apply net edit ≡ r → apply_each net (edit ∷ front) ≡ Err fault → ((new : Network) → apply_each new front ≡ Err fault → apply_each new (front ++ back) ≡ Err fault) → apply_each net ((edit ∷ front) ++ back) ≡ Err fault
    by (Ok new) e done again = rw e (again new (rw e at done))
    by (Err other) e done again = rw e (let h = rw e at done in h)

-- what refuses the first part refuses both
refused_on : (before : Network) (front back : List Edit) (fault : ApplyFault) → IsTold (apply_each before front) fault → IsTold (apply_each before (front ++ back)) fault
refused_on before front back (Refused fault) is = stopped before front back fault is
refused_on before front back Memory is = tt

refused_at : (before : Network) (edit : Edit) (later : List Edit) (fault : ApplyFault) → IsTold (apply before edit) fault → IsTold (apply_each before (edit ∷ later)) fault
unfolding apply_each
refused_at before edit later (Refused fault) is = rw is refl
refused_at before edit later Memory is = tt

-- a fault that is told is the answer
told : (before after : Network) (all : List Edit) (result : Result (Unit {0}) ApplyFault) (fault : ApplyFault) → IsErrAnd result (λ f. f ≡ fault) → IsTold (apply_each before all) fault → IsMade before all after result
told before after all (Ok u) fault is h = absurd is
told before after all (Err other) fault is h = subst (λ z. IsTold (apply_each before all) z) (sym is) h

pub refused_part : (before after : Network) (front back : List Edit) (result : Result (Unit {0}) ApplyFault) (fault : ApplyFault) → IsErrAnd result (λ f. f ≡ fault) → IsTold (apply_each before front) fault → IsMade before (front ++ back) after result
refused_part before after front back result fault is h = told before after (front ++ back) result fault is (refused_on before front back fault h)

pub refused_first : (before after : Network) (edit : Edit) (later : List Edit) (result : Result (Unit {0}) ApplyFault) (fault : ApplyFault) → IsErrAnd result (λ f. f ≡ fault) → IsTold (apply before edit) fault → IsMade before (edit ∷ later) after result
refused_first before after edit later result fault is h = told before after (edit ∷ later) result fault is (refused_at before edit later fault h)

-- ---- part after part, as a loop does

pub goes_on : {A : Type 0} (edits : A → List Edit) (before after : Network) (rest more : List A) (x : A) (total : Result Network EditFault) → rest ≡ x ∷ more → apply_each before (edits x) ≡ Ok after → apply_each before (flat_map edits rest) ≡ total
    → apply_each after (flat_map edits more) ≡ total
goes_on {A} edits before after rest more x total is one whole =
    sym (both_parts before after (edits x) (flat_map edits more) (apply_each after (flat_map edits more)) one refl) ∙ subst (λ (z : List A). apply_each before (flat_map edits z) ≡ total) is whole

pub ends : {A : Type 0} (edits : A → List Edit) (start before after : Network) (all rest more : List A) (x : A) (result : Result (Unit {0}) ApplyFault) (fault : ApplyFault) → rest ≡ x ∷ more → IsErrAnd result (λ f. f ≡ fault) → IsTold (apply_each before (edits x)) fault
    → apply_each before (flat_map edits rest) ≡ apply_each start (flat_map edits all) → IsMade start (flat_map edits all) after result
ends {A} edits start before after all rest more x result fault is failed h whole =
    let now : IsTold (apply_each before (flat_map edits rest)) fault = subst (λ (z : List A). IsTold (apply_each before (flat_map edits z)) fault) (sym is) (refused_on before (edits x) (flat_map edits more) fault h) in
    told start after (flat_map edits all) result fault failed (subst (λ (z : Result Network EditFault). IsTold z fault) whole now)

pub is_done : {A : Type 0} (edits : A → List Edit) (before : Network) (rest : List A) (total : Result Network EditFault) → length rest ≡ 0 → apply_each before (flat_map edits rest) ≡ total → total ≡ Ok before
unfolding apply_each
is_done edits before [] total none whole = sym whole
is_done edits before (x ∷ rest) total none whole = absurd (omega arith)
