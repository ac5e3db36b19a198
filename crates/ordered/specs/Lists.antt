-- What an `OrderedList` holds, and what an adding answers.
use Rattle.std.specs.Prelude.{ℕ, Bool, true, false, if◌then◌else◌, List, [], ◌∷◌, take, drop, Ok, Err, Result}
use Rattle.std.specs.Set.{is_member}
use Rattle.ordered.specs.declared.full.Full.{Full}
use Rattle.ordered.specs.declared.list.OrderedList.{OrderedList}

-- a new element finds the store full, or a free place
abbrev pub admitted : {A : Type 0} → List A → Result Bool Full
admitted [] = Err (record {})
admitted (x ∷ xs) = Ok true

-- how many places an adding took
abbrev pub taken : Result Bool Full → ℕ
taken (Ok new) = if new then 1 else 0
taken (Err f) = 0

-- besides A the type takes the members of its order
module _ {A : Type 0} {o : _} where
  -- the first of the store
  abbrev pub members : OrderedList A o → List A
  members l = take l.len l.store.now

  -- the places of the store that are free
  abbrev pub spare : OrderedList A o → List A
  spare l = drop l.len l.store.now

  -- that x is there already, or whether there is room for it
  abbrev pub answer : (A → A → Bool) → A → OrderedList A o → Result Bool Full
  answer eq x l = if is_member eq (members l) x then Ok false else admitted (spare l)
