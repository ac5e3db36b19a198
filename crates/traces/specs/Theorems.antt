-- What is proved of closures, normal forms, derivatives and the order of expressions. Each statement is the contract of a function.
use Rattle.std.specs.Prelude.{◌≡◌, ℕ, true, false, ◌≢◌, ◌⊎◌, ◌↔◌, List, [], ◌∷◌, ◌++◌, length}
use Rattle.std.specs.declared.cmp.Ordering.TheVariants.{Less, Equal}
use Rattle.std.specs.Ordering.{ordering_reverse}
use Rattle.traces.specs.Members.{Member, Any, Subset}
use Rattle.traces.specs.Words.{Word, Rel, never, Independent, Below}
use Rattle.traces.specs.Expressions.{Exp, event, one, zero, sum, cat, star, Matches, NoZero, EventsBelow}
use Rattle.traces.specs.Exchanges.{Exchanges}
use Rattle.traces.specs.Closure.{Closure}
use Rattle.traces.specs.Normal.{is_zero, is_one, equal, cat_of, sum_of, star_of, normal, Normal}
use Rattle.traces.specs.Derivatives.{keep, derivatives, next, after, nullable}
use Rattle.traces.specs.Order.{symbols, size, order, tree_order}

-- ── exchanges ──

-- where independence is symmetric, exchanges can be turned round
abbrev pub ExchangesReverse : Type 0
ExchangesReverse =
    (rel : Rel) → ((a b : ℕ) → rel a b ≡ true → rel b a ≡ true) → (u v : Word) → Exchanges rel u v → Exchanges rel v u

-- where no events are independent, the closure has no other words
abbrev pub ClosureNever : Type 0
ClosureNever = (E : Exp) (w : Word) → Closure never E w ↔ Matches E w

-- ── normal forms ──

-- the test says whether the two expressions are the same
abbrev pub EqualDecides : Type 0
EqualDecides = (E F : Exp) → (equal E F ≡ true) ↔ (E ≡ F)

-- the normalising constructors change no word
abbrev pub NormalWords : Type 0
NormalWords =
    ((E F : Exp) (w : Word) → Matches (cat_of E F) w ↔ Matches (cat E F) w)
    × ((E F : Exp) (w : Word) → Matches (sum_of E F) w ↔ Matches (sum E F) w)
    × ((E : Exp) (w : Word) → Matches (star_of E) w ↔ Matches (star E) w)
    × ((E : Exp) (w : Word) → Matches (normal E) w ↔ Matches E w)

-- what is built of events, One and Zero by the normalising constructors is normalised
abbrev pub NormalBuilt : Type 0
NormalBuilt =
    ((b : ℕ) → Normal (event b))
    × Normal one
    × Normal zero
    × ((E F : Exp) → Normal E → Normal F → Normal (cat_of E F))
    × ((E F : Exp) → Normal E → Normal F → Normal (sum_of E F))
    × ((E : Exp) → Normal E → Normal (star_of E))
    × ((E : Exp) → Normal (normal E))
    × ((rel : Rel) (a : ℕ) (E : Exp) → Normal (keep rel a E))

-- of normalised expressions two rules read more simply: the first part of a Cat stays as it is, and so does a Star
abbrev pub NormalPlain : Type 0
NormalPlain =
    ((A B F : Exp) → Normal (cat A B) → is_zero F ≡ false → is_one F ≡ false → cat_of (cat A B) F ≡ cat A (cat_of B F))
    × ((E : Exp) → Normal (star E) → star_of E ≡ star E)

-- a normalised expression is Zero or holds no Zero, and one that holds no Zero has a word
abbrev pub NormalHasWord : Type 0
NormalHasWord =
    ((E : Exp) → Normal E → (E ≡ zero) ⊎ NoZero E)
    × ((E : Exp) → NoZero E → (w : Word) × Matches E w)

-- ── events ──

-- the words of an expression have no other events than the expression
abbrev pub WordsBelow : Type 0
WordsBelow = (n : ℕ) (E : Exp) (w : Word) → EventsBelow n E → Matches E w → Below n w

-- nor has its closure
abbrev pub ClosureBelow : Type 0
ClosureBelow = (n : ℕ) (rel : Rel) (E : Exp) (w : Word) → EventsBelow n E → Closure rel E w → Below n w

-- and the constructors, what is kept and the derivatives bring in none
abbrev pub EventsStayBelow : Type 0
EventsStayBelow =
    ((n : ℕ) (E F : Exp) → EventsBelow n E → EventsBelow n F → EventsBelow n (cat_of E F))
    × ((n : ℕ) (E F : Exp) → EventsBelow n E → EventsBelow n F → EventsBelow n (sum_of E F))
    × ((n : ℕ) (E : Exp) → EventsBelow n E → EventsBelow n (star_of E))
    × ((n : ℕ) (E : Exp) → EventsBelow n E → EventsBelow n (normal E))
    × ((n : ℕ) (rel : Rel) (a : ℕ) (E : Exp) → EventsBelow n E → EventsBelow n (keep rel a E))
    × ((n : ℕ) (rel : Rel) (a : ℕ) (E F : Exp) → EventsBelow n E → Member F (derivatives rel a E) → EventsBelow n F)

-- ── derivatives ──

-- what E keeps beside a means the words of E all of whose events are independent of a
abbrev pub KeepWords : Type 0
KeepWords = (rel : Rel) (a : ℕ) (E : Exp) (w : Word) → Matches (keep rel a E) w ↔ (Matches E w × Independent rel a w)

-- no derivative is Zero, and those of a normalised expression are normalised
abbrev pub DerivativesNormal : Type 0
DerivativesNormal =
    ((rel : Rel) (a : ℕ) (E F : Exp) → Member F (derivatives rel a E) → F ≢ zero)
    × ((rel : Rel) (a : ℕ) (E F : Exp) → Normal E → Member F (derivatives rel a E) → Normal F)

-- a word that begins with a is in the closure of E exactly if the rest of it is in the closure of some derivative of E by a
abbrev pub DerivativesClosure : Type 0
DerivativesClosure =
    (rel : Rel) (E : Exp) (a : ℕ) (w : Word) → Closure rel E (a ∷ w) ↔ Any (λ E'. Closure rel E' w) (derivatives rel a E)

-- an expression is nullable exactly if the empty word is a word of it
abbrev pub NullableDecides : Type 0
NullableDecides = (E : Exp) → (nullable E ≡ true) ↔ Matches E []

-- a word is in the closure of E exactly if some member of the set after it is nullable
abbrev pub NullableClosure : Type 0
NullableClosure =
    (rel : Rel) (E : Exp) (w : Word) → Closure rel E w ↔ Any (λ F. nullable F ≡ true) (after rel (E ∷ []) w)

-- ── sets ──

-- the set after a word is not empty exactly if some events below n, put behind the word, give a word of the closure
abbrev pub NonemptyPrefix : Type 0
NonemptyPrefix =
    (n : ℕ) (rel : Rel) (E : Exp) (w : Word) → Normal E → E ≢ zero → EventsBelow n E
    → (after rel (E ∷ []) w ≢ []) ↔ ((v : Word) × Below n v × Closure rel E (w ++ v))

-- the set after a longer word follows from the set after its beginning
abbrev pub AfterAppend : Type 0
AfterAppend = (rel : Rel) (Es : List Exp) (w v : Word) → after rel Es (w ++ v) ≡ after rel (after rel Es w) v

-- once empty, the set stays empty
abbrev pub EmptyStaysEmpty : Type 0
EmptyStaysEmpty = (rel : Rel) (Es : List Exp) (w v : Word) → after rel Es w ≡ [] → after rel Es (w ++ v) ≡ []

-- only the members of a set count, and not their order or how often each stands in the list
abbrev pub MembersCount : Type 0
MembersCount =
    ((rel : Rel) (a : ℕ) (Es Fs : List Exp) → Subset Es Fs → Subset (next rel a Es) (next rel a Fs))
    × ((rel : Rel) (Es Fs : List Exp) (w : Word) → Subset Es Fs → Subset (after rel Es w) (after rel Fs w))
    × ((Es Fs : List Exp) → Subset Es Fs → Any (λ E. nullable E ≡ true) Es → Any (λ E. nullable E ≡ true) Fs)
    × ((Es Fs : List Exp) → Subset Es Fs → Fs ≡ [] → Es ≡ [])

-- ── size and order ──

-- the size is the length of the prefix form
abbrev pub SizeCountsSymbols : Type 0
SizeCountsSymbols = (E : Exp) → size E ≡ length (symbols E)

-- the order is total and transitive; it does not tell Equal ones apart
abbrev pub OrderTotal : Type 0
OrderTotal =
    ((E : Exp) → order E E ≡ Equal)
    × ((E F : Exp) → order E F ≡ ordering_reverse (order F E))
    × ((E F G : Exp) → order E F ≡ Less → order F G ≡ Less → order E G ≡ Less)
    × ((E F G : Exp) → order E F ≡ Equal → order E G ≡ order F G)

-- it is Equal only where the symbols are the same, and so the expressions; an event from 64 on could stand for another symbol
abbrev pub OrderEqual : Type 0
OrderEqual =
    ((E F : Exp) → order E F ≡ Equal → symbols E ≡ symbols F)
    × ((E F : Exp) → EventsBelow 64 E → EventsBelow 64 F → order E F ≡ Equal → E ≡ F)

-- for events below 64 it can be found part by part
abbrev pub OrderByParts : Type 0
OrderByParts = (E F : Exp) → EventsBelow 64 E → EventsBelow 64 F → order E F ≡ tree_order E F
