-- The places of the grammar at which a reading can stand. Assumes nothing.
use Rattle.std.specs.Prelude.{ℕ, Bool, true, false, [], ◌∷◌, get_or}
use Rattle.reading_cursors.specs.declared.places.Place.{Place}
use Rattle.reading_cursors.specs.declared.places.Place.TheVariants as place

-- a version script: at its start; between nodes; behind a node's name; in a named node's body, in an extern block there; in the one body of a script
-- without names, in an extern block there
abbrev pub at_script : Place
at_script = place.AtScript

abbrev pub at_node : Place
at_node = place.AtNode

abbrev pub at_body : Place
at_body = place.AtBody

abbrev pub in_body : Place
in_body = place.InBody

abbrev pub in_body_extern : Place
in_body_extern = place.InBodyExtern

abbrev pub in_sole : Place
in_sole = place.InSole

abbrev pub in_sole_extern : Place
in_sole_extern = place.InSoleExtern

-- an export list: at its start; in it, in an extern block there
abbrev pub at_list : Place
at_list = place.AtList

abbrev pub in_list : Place
in_list = place.InList

abbrev pub in_list_extern : Place
in_list_extern = place.InListExtern

-- a text of `add_symbol`: at its start, in an extern block there; the same without semicolon; behind its matcher
abbrev pub at_symbol : Place
at_symbol = place.AtSymbol

abbrev pub in_symbol_extern : Place
in_symbol_extern = place.InSymbolExtern

abbrev pub at_bare : Place
at_bare = place.AtBare

abbrev pub in_bare_extern : Place
in_bare_extern = place.InBareExtern

abbrev pub behind_symbol : Place
behind_symbol = place.BehindSymbol

-- whether it is one of a version script; of a text of `add_symbol`; the start of an export list; and the place at which nothing more is read
abbrev pub of_script : Place → Bool
of_script place.AtScript = true
of_script place.AtNode = true
of_script place.AtBody = true
of_script place.InBody = true
of_script place.InBodyExtern = true
of_script place.InSole = true
of_script place.InSoleExtern = true
of_script p = false

abbrev pub of_symbol : Place → Bool
of_symbol place.AtSymbol = true
of_symbol place.InSymbolExtern = true
of_symbol place.AtBare = true
of_symbol place.InBareExtern = true
of_symbol place.BehindSymbol = true
of_symbol p = false

abbrev pub is_list : Place → Bool
is_list place.AtList = true
is_list p = false

abbrev pub is_behind : Place → Bool
is_behind place.BehindSymbol = true
is_behind p = false

-- the place that a number says: the places in their order, and at any other number nothing more is read
abbrev pub place_by : ℕ → Place
place_by n =
    get_or (at_script ∷ at_node ∷ at_body ∷ in_body ∷ in_body_extern ∷ in_sole ∷ in_sole_extern ∷ at_list ∷ in_list ∷ in_list_extern
    ∷ at_symbol ∷ in_symbol_extern ∷ at_bare ∷ in_bare_extern ∷ []) n behind_symbol
