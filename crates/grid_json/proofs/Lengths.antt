-- Arrays of two and of three items, an item after the other.
use Rattle.std.proofs.Common.{◌≡◌, Some, Result, Err, sym, ap, ◌∙◌}
use Rattle.serde_json.specs.Data.{Data, Items, no_items, item}
use Rattle.serde_json.specs.Find.{as_array}
use Rattle.grid_json.specs.declared.fault.Fault.{Fault}
use Rattle.grid_json.specs.declared.fault.Reason.TheVariants.{WrongKind}
use Rattle.grid_json.specs.Reading.{◌>>=◌, or_fault, here}
use Rattle.grid_json.specs.Network.{both, two_of, two_at, all_three, three_of, three_at}

module _ {A : Type 0} (read : Data → Result A Fault) where
  two_in : (d : Data) (ds es : Items) → Some ds ≡ as_array d → ds ≡ es → two_at read d ≡ two_of read es
  two_in d ds es is same = ap (λ found. or_fault WrongKind found >>= two_of read) (sym is) ∙ ap (two_of read) same

  three_in : (d : Data) (ds es : Items) → Some ds ≡ as_array d → ds ≡ es → three_at read d ≡ three_of read es
  three_in d ds es is same = ap (λ found. or_fault WrongKind found >>= three_of read) (sym is) ∙ ap (three_of read) same

  pub two_none : (d : Data) (ds : Items) → Some ds ≡ as_array d → ds ≡ no_items → two_at read d ≡ Err (here WrongKind)
  unfolding two_of
  two_none d ds is first = two_in d ds no_items is first

  pub two_one : (d a : Data) (ds es : Items) → Some ds ≡ as_array d → ds ≡ item a es → es ≡ no_items → two_at read d ≡ Err (here WrongKind)
  unfolding two_of
  two_one d a ds es is first second = two_in d ds (item a no_items) is (first ∙ ap (item a) second)

  pub two_more : (d a b c : Data) (ds es fs gs : Items) → Some ds ≡ as_array d → ds ≡ item a es → es ≡ item b fs → fs ≡ item c gs → two_at read d ≡ Err (here WrongKind)
  unfolding two_of
  two_more d a b c ds es fs gs is first second third = two_in d ds (item a (item b (item c gs))) is (first ∙ ap (item a) (second ∙ ap (item b) third))

  pub just_two : (d a b : Data) (ds es fs : Items) → Some ds ≡ as_array d → ds ≡ item a es → es ≡ item b fs → fs ≡ no_items → two_at read d ≡ both read a b
  unfolding two_of
  just_two d a b ds es fs is first second third = two_in d ds (item a (item b no_items)) is (first ∙ ap (item a) (second ∙ ap (item b) third))

  pub three_none : (d : Data) (ds : Items) → Some ds ≡ as_array d → ds ≡ no_items → three_at read d ≡ Err (here WrongKind)
  unfolding three_of
  three_none d ds is first = three_in d ds no_items is first

  pub three_one : (d a : Data) (ds es : Items) → Some ds ≡ as_array d → ds ≡ item a es → es ≡ no_items → three_at read d ≡ Err (here WrongKind)
  unfolding three_of
  three_one d a ds es is first second = three_in d ds (item a no_items) is (first ∙ ap (item a) second)

  pub three_two : (d a b : Data) (ds es fs : Items) → Some ds ≡ as_array d → ds ≡ item a es → es ≡ item b fs → fs ≡ no_items → three_at read d ≡ Err (here WrongKind)
  unfolding three_of
  three_two d a b ds es fs is first second third = three_in d ds (item a (item b no_items)) is (first ∙ ap (item a) (second ∙ ap (item b) third))

  pub three_more : (d a b c e : Data) (ds es fs gs hs : Items) → Some ds ≡ as_array d → ds ≡ item a es → es ≡ item b fs → fs ≡ item c gs → gs ≡ item e hs → three_at read d ≡ Err (here WrongKind)
  unfolding three_of
  three_more d a b c e ds es fs gs hs is first second third fourth = three_in d ds (item a (item b (item c (item e hs)))) is (first ∙ ap (item a) (second ∙ ap (item b) (third ∙ ap (item c) fourth)))

  pub just_three : (d a b c : Data) (ds es fs gs : Items) → Some ds ≡ as_array d → ds ≡ item a es → es ≡ item b fs → fs ≡ item c gs → gs ≡ no_items → three_at read d ≡ all_three read a b c
  unfolding three_of
  just_three d a b c ds es fs gs is first second third fourth = three_in d ds (item a (item b (item c no_items))) is (first ∙ ap (item a) (second ∙ ap (item b) (third ∙ ap (item c) fourth)))
