-- Which forms one thread serves.
use Rattle.std.specs.Prelude.{ℕ, List, Option, Some, None}
use Rattle.grid_forms.specs.declared.words.Form.{Form}
use Rattle.grid_forms.specs.declared.words.Form.TheVariants.{Run, Screen}
use Rattle.grid_forms.specs.Words.{form_of}

-- the form, where one thread serves it: all but `run` and `screen`
abbrev pub on_one_thread : Option Form → Option Form
on_one_thread (Some (Run layout)) = None
on_one_thread (Some (Screen layout)) = None
on_one_thread other = other

-- the words of a form that one thread serves
abbrev pub form_alone : List (List ℕ) → Option Form
form_alone words = on_one_thread (form_of words)
