-- How a gyle is written. Assumes nothing.
use Rattle.std.specs.Prelude.{◌≡◌, ℕ, List, [], ◌∷◌, ◌++◌, length, drop, replicate, ℤ, codes, FitsSigned}
use Rattle.std.specs.Int.{Width, w16, w32}
use Rattle.std.specs.Str.Parse.{IsNumeral, without_leading_sign, signed_digits_value}
use Rattle.std.specs.Fmt.{signed_decimal}
use Rattle.kinds.specs.Fields.{signed_of}
use Rattle.input.specs.declared.names.GyleName.{GyleName}
use Rattle.input.specs.declared.names.Line.{Line}
use Rattle.input.specs.declared.names.Line.TheVariants.{Enter, Seek, Words}

-- the bytes are the number in decimal digits, with or without a sign before them, and it fits the width
pub record Writes (w : Width) (bytes : List ℕ) (z : ℤ) : Type 0 where
  pub numeral : IsNumeral 10 (without_leading_sign bytes)
  pub fits : FitsSigned w (signed_digits_value 10 bytes)
  pub value : z ≡ signed_digits_value 10 bytes

-- the text is the year, a stroke (47) and the number
pub record Spelled (text : List ℕ) (name : GyleName) : Type 0 where
  pub front : List ℕ
  pub back : List ℕ
  pub whole : text ≡ front ++ 47 ∷ back
  pub year : Writes w16 front name.year
  pub number : Writes w32 back name.number

-- the text spells no gyle
abbrev pub SpellsNone : List ℕ → Type 0
SpellsNone text = (name : GyleName) → ¬ Spelled text name

-- how a name is printed
abbrev pub written : GyleName → List ℕ
written name = signed_decimal name.year ++ (codes "/" ++ signed_decimal name.number)

-- what a line is taken for
abbrev pub Means : List ℕ → Line → Type 0
Means text (Enter name) = Spelled text name
Means text (Seek name) = (rest : List ℕ) × (text ≡ codes "seek " ++ rest) × Spelled rest name
Means text Words = SpellsNone text × ((rest : List ℕ) → text ≡ codes "seek " ++ rest → SpellsNone rest)

-- a gyle's record as a text enters it: a key that has its year and number, and zeros behind that
pub record IsRecordOf (name : GyleName) (bytes : List ℕ) : Type 0 where
  pub long : length bytes ≡ 32
  pub year : signed_of 2 bytes ≡ name.year
  pub number : signed_of 4 (drop 2 bytes) ≡ name.number
  pub zeros : drop 6 bytes ≡ replicate 26 0

-- what lines enter, one behind another: each that spells a gyle the record of that gyle, and any other nothing
pub data Enters : List (List ℕ) → List ℕ → Type 0 where
  nothing : Enters [] []
  gyle : {lines : List (List ℕ)} {records : List ℕ} (line bytes : List ℕ) (name : GyleName)
      → Enters lines records → Spelled line name → IsRecordOf name bytes → Enters (lines ++ line ∷ []) (records ++ bytes)
  other : {lines : List (List ℕ)} {records : List ℕ} (line : List ℕ)
      → Enters lines records → SpellsNone line → Enters (lines ++ line ∷ []) records
