-- Regular expressions over events, and the set of words that each means.
use Rattle.std.specs.Prelude.{◌≡◌, ℕ, ◌<◌, ◌⊎◌, [], ◌∷◌, ◌++◌}
use Rattle.traces.specs.Words.{Word}

pub data Exp : Type 0 where
  event : ℕ → Exp
  one zero : Exp
  sum cat : Exp → Exp → Exp
  star : Exp → Exp

-- w is made of any number of words with P, one after another
pub data Rounds (P : Word → Type 0) : Word → Type 0 where
  done : {w : Word} → w ≡ [] → Rounds P w
  more : {w : Word} (u v : Word) → w ≡ u ++ v → P u → Rounds P v → Rounds P w

-- w is a word of the expression
abbrev pub Matches : Exp → Word → Type 0
Matches (event b) w = w ≡ b ∷ []
Matches one w = w ≡ []
Matches zero w = ⊥
Matches (sum E F) w = Matches E w ⊎ Matches F w
Matches (cat E F) w = (u : Word) × (v : Word) × (w ≡ u ++ v) × Matches E u × Matches F v
Matches (star E) w = Rounds (Matches E) w

-- no Zero stands in the expression
abbrev pub NoZero : Exp → Type 0
NoZero (event b) = Unit {0}
NoZero one = Unit {0}
NoZero zero = ⊥
NoZero (sum E F) = NoZero E × NoZero F
NoZero (cat E F) = NoZero E × NoZero F
NoZero (star E) = NoZero E

-- every event in the expression is below n
abbrev pub EventsBelow : ℕ → Exp → Type 0
EventsBelow n (event b) = b < n
EventsBelow n one = Unit {0}
EventsBelow n zero = Unit {0}
EventsBelow n (sum E F) = EventsBelow n E × EventsBelow n F
EventsBelow n (cat E F) = EventsBelow n E × EventsBelow n F
EventsBelow n (star E) = EventsBelow n E
