-- Whether a head has no field with a name, one, or several.
use Rattle.std.specs.Prelude.{◌≡◌, ◌<◌, List, [], ◌∷◌, length}
use Rattle.tl_hash.specs.Bytes.{Bytes}
use Rattle.tl_http.specs.declared.field_values.Values.{Values}
use Rattle.tl_http.specs.declared.field_values.Values.TheVariants as values

-- there is no value, this one value, or several
abbrev pub AreValues : List Bytes → Values → Type 0
AreValues all values.None = all ≡ []
AreValues all (values.One value) = all ≡ value.now ∷ []
AreValues all values.More = 1 < length all
