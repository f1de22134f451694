-- Why a store refuses, and the fault that says so. Assumes nothing.
use Rattle.std.specs.Prelude.{ℕ, Bool, if◌then◌else◌, List, [], ◌∷◌, ◌++◌, Ok, Err, codes, decimal, Result}
use Rattle.store.specs.declared.faults.Fault.{Fault}
use Rattle.store.specs.declared.faults.Layer.{Layer}
use Rattle.store.specs.declared.faults.Layer.TheVariants.{Store, File, Ledger}
use Rattle.store.specs.declared.faults.Refusal.{Refusal}
use Rattle.store.specs.declared.faults.Refusal.TheVariants.{WrongBuffer, NoSegment, BadSegment, UnfitMemory, BrokenChain}

-- what a call that hands back no value answers
abbrev pub Answer : Type 0
Answer = Result (Unit {0}) Fault

-- every number that a store gives
abbrev pub number_of : Refusal → ℕ
number_of WrongBuffer = 11
number_of (NoSegment i) = 12
number_of (BadSegment i) = 13
number_of UnfitMemory = 14
number_of BrokenChain = 15

-- the segment that a refusal names, 0 for none
abbrev pub segment_of : Refusal → ℕ
segment_of WrongBuffer = 0
segment_of (NoSegment i) = i
segment_of (BadSegment i) = i
segment_of UnfitMemory = 0
segment_of BrokenChain = 0

abbrev pub layer_number : Layer → ℕ
layer_number Store = 1
layer_number File = 2
layer_number Ledger = 3

-- a store knows of no file
abbrev pub fault_of : Refusal → Fault
fault_of r = record { number = number_of r; layer = layer_number Store; file = 0; segment = segment_of r }

-- a question before a step, with the fault that a no gives
pub record Question : Type 0 where
  pub yes : Bool
  pub otherwise : Fault

abbrev pub asks : Bool → Refusal → Question
asks b r = record { yes = b; otherwise = fault_of r }

-- the first no decides
abbrev pub first_no : List Question → Answer
first_no [] = Ok tt
first_no (q ∷ qs) = if q.yes then first_no qs else Err q.otherwise

-- one step after another: the first refusal stands
abbrev pub and_then : Answer → Answer → Answer
and_then (Ok u) next = next
and_then (Err f) next = Err f

-- what is there after an answer: the new where the step was done, the old where it was refused
abbrev pub only_if : {X : Type 0} → Answer → X → X → X
only_if (Ok u) new old = new
only_if (Err f) new old = old

-- a fault that comes up from a file's store says which file; nothing else of it changes
abbrev pub with_file : ℕ → Fault → Fault
with_file n f = record { number = f.number; layer = f.layer; file = n; segment = f.segment }

abbrev pub named : ℕ → Answer → Answer
named n (Ok u) = Ok u
named n (Err f) = Err (with_file n f)

-- how a fault is written
abbrev pub text_of : Fault → List ℕ
text_of f =
    codes "refused " ++ decimal f.number ++ codes " layer " ++ decimal f.layer ++ codes " file " ++ decimal f.file ++ codes " segment " ++ decimal f.segment
