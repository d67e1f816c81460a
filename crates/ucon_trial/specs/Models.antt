-- What `check` prints.
use Rattle.std.specs.Prelude.{List, [], ◌∷◌, ◌++◌, codes}
use Rattle.ucon_model.specs.declared.core_model.Core.{Core}
use Rattle.ucon_model.specs.Plain.{Bytes, PlainRight}
use Rattle.ucon_model.specs.Cores.{core_models_of, core_name}

-- core models, each behind a space
abbrev pub models_spelling : List Core → Bytes
models_spelling [] = []
models_spelling (c ∷ cores) = 32 ∷ core_name c ++ models_spelling cores

-- a right with its core models
abbrev pub right_spelling : PlainRight → Bytes
right_spelling r = codes "right " ++ r.name ++ models_spelling (core_models_of r)

-- one line for each right, in written order
abbrev pub rights_output : List PlainRight → Bytes
rights_output [] = []
rights_output (r ∷ rights) = right_spelling r ++ 10 ∷ [] ++ rights_output rights
