-- Keys made of fields, and the order that the fields give. A key that is too short counts as filled up with zeros,
-- and what lies behind the last field is not looked at. Assumes nothing.
use Rattle.std.specs.Prelude.{ℕ, zero, suc, ◌+◌, ◌-◌, ◌*◌, ◌/◌, ◌^◌, Bool, true, false, if◌then◌else◌, List, [], ◌∷◌, drop, ℤ, pos, negsuc, nat_lt, slice_index}
use Rattle.std.specs.declared.cmp.Ordering.TheVariants.{Equal}
use Rattle.std.specs.declared.cmp.Ordering.{Ordering}
use Rattle.std.specs.Ordering.{ordering_reverse, ordering_then, nat_cmp, int_cmp}
use Rattle.kinds.specs.declared.fields.Field.{Field}
use Rattle.kinds.specs.Laws.{Order}

-- the first n bytes as an unsigned number, the high byte first
abbrev pub unsigned_of : ℕ → List ℕ → ℕ
unsigned_of zero k = 0
unsigned_of (suc n) k = unsigned_of n k * 256 + slice_index k n

-- v, a number of n bytes, read as two's complement
abbrev pub twos : ℕ → ℕ → ℤ
twos n v = if nat_lt v (256 ^ n / 2) then pos v else negsuc (256 ^ n - suc v)

-- the first n bytes as a signed number
abbrev pub signed_of : ℕ → List ℕ → ℤ
signed_of n k = twos n (unsigned_of n k)

-- by the first n bytes, unsigned: the first that differs decides
abbrev pub by_bytes : ℕ → Order
by_bytes zero a b = Equal
by_bytes (suc n) a b = ordering_then (by_bytes n a b) (nat_cmp (slice_index a n) (slice_index b n))

-- by the signed number that the first n bytes are
abbrev pub by_signed : ℕ → Order
by_signed n a b = int_cmp (signed_of n a) (signed_of n b)

-- ascending, or the other way round
abbrev pub directed : Bool → Ordering → Ordering
directed true o = ordering_reverse o
directed false o = o

-- by the field that a key begins with
abbrev pub by_field : Field → Order
by_field f a b = directed f.descending (if f.signed then by_signed f.width a b else by_bytes f.width a b)

-- by each field in turn, one behind another
abbrev pub by_fields : List Field → Order
by_fields [] a b = Equal
by_fields (f ∷ fs) a b = ordering_then (by_field f a b) (by_fields fs (drop f.width a) (drop f.width b))

-- the bytes that the fields take
abbrev pub width_of : List Field → ℕ
width_of [] = 0
width_of (f ∷ fs) = f.width + width_of fs
