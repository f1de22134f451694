-- Kinds whose keys are made of fields, the two that there are, and facts of their orders in the words of their records. Assumes nothing.
use Rattle.std.specs.Prelude.{◌≡◌, ℕ, Bool, true, false, List, [], ◌∷◌, take, drop, pos, negsuc}
use Rattle.std.specs.declared.cmp.Ordering.TheVariants.{Less, Greater}
use Rattle.kinds.specs.declared.fields.Field.{Field}
use Rattle.kinds.specs.Fields.{signed_of, by_fields, width_of}
use Rattle.kinds.specs.Laws.{Kind}

abbrev pub field : ℕ → Bool → Bool → Field
field n signed descending = record { width = n; signed = signed; descending = descending }

-- the kind of that number, its records of that length, whose key is made of the fields
abbrev pub of_fields : ℕ → ℕ → List Field → Kind
of_fields number length fields = record { number = number; record_length = length; key_length = width_of fields; order = by_fields fields }

-- the year, then the gyle number, both signed and ascending
abbrev pub gyle_fields : List Field
gyle_fields = field 2 true false ∷ field 4 true false ∷ []

-- the code, unsigned and ascending, then the price year, signed and descending
abbrev pub item_fields : List Field
item_fields = field 8 false false ∷ field 2 true true ∷ []

abbrev pub gyle_kind : Kind
gyle_kind = of_fields 1 32 gyle_fields

abbrev pub item_kind : Kind
item_kind = of_fields 2 40 item_fields

-- -1/5 is below 0/-3
abbrev pub YearDecides : Type 0
YearDecides = (a b : List ℕ) → signed_of 2 a ≡ negsuc 0 → signed_of 4 (drop 2 a) ≡ pos 5 → signed_of 2 b ≡ pos 0 → signed_of 4 (drop 2 b) ≡ negsuc 2 → gyle_kind.order a b ≡ Less

-- within one code, price year -32,768 is above 32,767
abbrev pub LatestPriceFirst : Type 0
LatestPriceFirst = (a b : List ℕ) → take 8 a ≡ take 8 b → signed_of 2 (drop 8 a) ≡ negsuc 32767 → signed_of 2 (drop 8 b) ≡ pos 32767 → item_kind.order a b ≡ Greater
