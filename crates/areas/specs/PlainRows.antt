-- Segments that lie side by side in memory. Assumes nothing.
use Rattle.std.specs.Prelude.{ℕ, ◌*◌, ◌/◌, ◌%◌, Bool, cond, ◌&&◌, List, [], ◌∷◌, map, length, ◌==◌, nat_le, nat_lt}
use Rattle.std.specs.List.{range_with_len}
use Rattle.store.specs.declared.faults.Refusal.TheVariants.{UnfitMemory}
use Rattle.store.specs.Faults.{Answer, asks, first_no}
use Rattle.store.specs.Rows.{Segment, good, bad, bytes_from}

-- n bytes are from 1 to 65,535 whole parts of a size
abbrev pub whole : ℕ → ℕ → Bool
whole size n = nat_lt 0 n && n % size == 0 && nat_le (n / size) 65535

-- how many those are, none where they are not
abbrev pub parts : ℕ → ℕ → ℕ
parts size n = cond (whole size n) (n / size) 0

abbrev pub plain_segment : List ℕ → ℕ → Segment
plain_segment memory k = good (bytes_from memory (k * 512))

-- memory of a fit size is cut into segments, all good; any other is one bad segment
abbrev pub plain_row : List ℕ → List Segment
plain_row memory = cond (whole 512 (length memory)) (map (plain_segment memory) (range_with_len 0 (length memory / 512))) (bad ∷ [])

-- what of the memory no call changes: nothing where all of it is segments, else all of it
abbrev pub plain_frame : List ℕ → List (List ℕ)
plain_frame memory = cond (whole 512 (length memory)) [] (memory ∷ [])

-- the answer of the call that looks
abbrev pub plain_look : List ℕ → Answer
plain_look memory = first_no (asks (whole 512 (length memory)) UnfitMemory ∷ [])
