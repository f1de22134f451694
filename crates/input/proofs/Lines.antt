-- What a line is taken for. Assumes nothing.
use Rattle.std.proofs.Common.{◌≡◌, ◌≢◌, Result, Ok, Err, MatchResult, ℕ, List, ◌++◌, codes, get_or, refl, ap}
use Rattle.input.specs.declared.names.GyleName.{GyleName}
use Rattle.input.specs.declared.names.Line.{Line}
use Rattle.input.specs.declared.names.Line.TheVariants.{Enter, Seek, Words}
use Rattle.input.proofs.Strokes.{no_word}
use Rattle.input.specs.Names.{Spelled, SpellsNone, Means}

-- a text behind the word `seek` spells no gyle itself
behind_word : (text rest : List ℕ) → text ≡ codes "seek " ++ rest → SpellsNone text
behind_word text rest e name s = no_word text s.front s.back s.whole s.year.numeral (ap (λ t. get_or t 0 0) e)

-- and is taken for what is read behind that word
pub sought : {E : Type 0} (text rest : List ℕ) (r : Result GyleName E) (line : Line) → text ≡ codes "seek " ++ rest
    → MatchResult r (Spelled rest) (λ _. SpellsNone rest) → MatchResult r (λ name. line ≡ Seek name) (λ _. line ≡ Words) → Means text line
sought text rest (Ok name) line e spells is = rw is (rest, e, spells)
sought text rest (Err _) line e none is = rw is (behind_word text rest e, λ other f. let same : other ≡ rest = cc in rw same none)

-- a line that is not taken for a gyle to be entered spells none
pub not_entered : (text : List ℕ) (line : Line) → Means text line → ((name : GyleName) → line ≢ Enter name) → SpellsNone text
not_entered text (Enter found) means other = absurd (other found refl)
not_entered text (Seek found) means other = behind_word text means.0 means.1
not_entered text Words means other = means.0
