-- How a row is written: its numbers in their order, role sets as sets.
use Rattle.std.specs.Prelude.{ℕ, zero, suc, cond, List, [], ◌∷◌, ◌++◌, codes, decimal, flat_map}
use Rattle.order.specs.RoleSets.{has}
use Rattle.dump.specs.declared.field.Field.{Field}
use Rattle.dump.specs.declared.field.Field.TheVariants.{Number, Set}

-- The roles of a set that are below n, the lowest first.
unfoldable pub roles_below : ℕ → ℕ → List ℕ
roles_below set zero = []
roles_below set (suc n) = roles_below set n ++ cond (has set n) (n ∷ []) []

-- The roles of a set.
abbrev pub roles_of : ℕ → List ℕ
roles_of set = roles_below set 64

-- Roles with a comma before each but the first, which has `before` in front of it.
abbrev pub role_texts : List ℕ → List ℕ → List ℕ
role_texts before [] = []
role_texts before (role ∷ roles) = before ++ (decimal role ++ role_texts (codes ",") roles)

-- A set, as `{0,3}` or `{}`.
abbrev pub set_text : ℕ → List ℕ
set_text set = codes "{" ++ (role_texts [] (roles_of set) ++ codes "}")

abbrev pub field_text : Field → List ℕ
field_text (Number n) = decimal n
field_text (Set s) = set_text s

-- A field with a space before it.
abbrev pub spaced : Field → List ℕ
spaced f = codes " " ++ field_text f

-- The fields, a space before each.
abbrev pub fields_text : List Field → List ℕ
fields_text fields = flat_map spaced fields
