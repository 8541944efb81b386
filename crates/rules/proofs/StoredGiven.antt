-- Every directive that is read can be stored; no stored form is longer than 22,534 bytes, and one has as many.
use Rattle.std.specs.Prelude.{None}
use mathlib.Core.Path.{◌≡◌, refl, ap}
use mathlib.Core.Bool.{Bool, true, false, cond}
use mathlib.Core.List.{List, [], ◌∷◌, ◌++◌, append_assoc}
use Prim.Native.Nat.{ℕ, zero, suc, ◌+◌, ◌*◌, ◌≤◌, max}
use native.Mathlib.Omega.{arith}
use lib.Dec.{eqb}
use lib.ListN.{length, length-append}
use Rattle.rules.specs.declared.Number.TheVariants.{Year4Digits}
use Rattle.rules.specs.declared.Spec.TheVariants.{Number as number}
use Rattle.rules.specs.declared.Piece.{Piece}
use Rattle.rules.specs.declared.Reading.TheVariants.{InFlags}
use Rattle.rules.specs.declared.Turn.{Turn}
use Rattle.rules.specs.declared.Turn.TheVariants.{More, Found, Echoed, Unread}
use Rattle.rules.specs.Ascii.{byte}
use Rattle.rules.specs.Record.{longest_format}
use Rattle.rules.specs.Reading.{outset, on_flag, possible_specs, look_up, piece_of, on_letter, turn, open?}
use Rattle.rules.specs.Format.{Item, literal, echo, directive, cut, State, between, inside, Step, on_turn, step, ending, read, items}
use Rattle.rules.specs.Stored.{Part, text, piece, join_text, parts, literals_in, pieces_in, stored}
use Rattle.rules.proofs.EachItem.{AllItems}
use Rattle.rules.proofs.WidthsRead.{ItemOk, items_ok}
use Rattle.rules.proofs.StoredEntries.{AllGiven}
use Rattle.rules.proofs.StoredLoading.{Storable, stored_length}

-- ## What items cost

-- twice the bytes that an item takes in the stored form, its own step counted
abbrev cost : Item → ℕ
cost (literal b) = 8
cost (echo bytes) = length bytes * 2 + 6
cost (directive p) = 22
cost cut = 0

costs : List Item → ℕ
costs [] = 0
costs (i ∷ is) = cost i + costs is

costs_join : (xs ys : List Item) → costs (xs ++ ys) ≡ costs xs + costs ys
unfolding costs
costs_join [] ys = omega arith
costs_join (x ∷ xs) ys = omega (arith, costs_join xs ys)

-- what the bytes of an unfinished directive may still cost: 11 a byte
abbrev held : State → ℕ
held between = 0
held (inside r bytes) = max 1 (length bytes) * 11

abbrev fresh_by : Bool → ℕ → Step
fresh_by t b = cond {A = Step} t (record { settles = []; to = inside (InFlags outset) (b ∷ []) }) (record { settles = literal b ∷ []; to = between })

cost_fresh : (t : Bool) (b : ℕ) → costs (fresh_by t b).settles + held (fresh_by t b).to ≤ 11
unfolding costs
cost_fresh true b = omega arith
cost_fresh false b = omega arith

cost_turn : (bytes : List ℕ) (b : ℕ) (u : Turn) → costs (on_turn bytes b u).settles + held (on_turn bytes b u).to ≤ max 1 (length bytes) * 11 + 11
unfolding costs
cost_turn bytes b (More r) = omega (arith, length-append bytes (b ∷ []))
cost_turn bytes b (Found p) = omega arith
cost_turn bytes b Echoed = omega (arith, length-append bytes (b ∷ []))
cost_turn bytes b Unread = let h = cost_fresh (eqb b (byte "%")) b in omega arith

cost_step : (state : State) (b : ℕ) → costs (step state b).settles + held (step state b).to ≤ held state + 11
unfolding step
cost_step between b = let h = cost_fresh (eqb b (byte "%")) b in omega arith
cost_step (inside r bytes) b = cost_turn bytes b (turn r b)

cost_end : (state : State) → costs (ending state) ≤ held state
unfolding ending costs
cost_end between = omega arith
cost_end (inside r bytes) = go (open? r)
  where
    go : (t : Bool) → cost (cond t cut (echo bytes)) + 0 ≤ max 1 (length bytes) * 11
    go true = omega arith
    go false = omega arith

cost_read : (state : State) (bytes : List ℕ) → costs (read state bytes) ≤ held state + length bytes * 11
unfolding read
cost_read state [] = omega (arith, cost_end state)
cost_read state (b ∷ bytes) = omega (arith, cost_step state b, cost_read (step state b).to bytes, costs_join (step state b).settles (read (step state b).to bytes))

abbrev size : List Part → ℕ
size ps = length (literals_in ps) * 2 + length (pieces_in ps) * 16 + length ps * 6

join_pieces : (bytes : List ℕ) (ps : List Part) → pieces_in (join_text bytes ps) ≡ pieces_in ps
unfolding pieces_in
join_pieces bytes [] = refl
join_pieces bytes (text more ∷ ps) = refl
join_pieces bytes (piece p ∷ ps) = refl

pub join_literals : (bytes : List ℕ) (ps : List Part) → literals_in (join_text bytes ps) ≡ bytes ++ literals_in ps
unfolding literals_in
join_literals bytes [] = refl
join_literals bytes (text more ∷ ps) = append_assoc bytes more (literals_in ps)
join_literals bytes (piece p ∷ ps) = refl

join_steps : (bytes : List ℕ) (ps : List Part) → length (join_text bytes ps) ≤ 1 + length ps
join_steps bytes [] = omega arith
join_steps bytes (text more ∷ ps) = omega arith
join_steps bytes (piece p ∷ ps) = omega arith

join_size : (bytes : List ℕ) (ps : List Part) → size (join_text bytes ps) ≤ length bytes * 2 + 6 + size ps
join_size bytes ps =
    omega (arith, ap length (join_pieces bytes ps), ap length (join_literals bytes ps), length-append bytes (literals_in ps), join_steps bytes ps)

parts_size : (is : List Item) → size (parts is) ≤ costs is
unfolding parts costs literals_in pieces_in
parts_size [] = omega arith
parts_size (literal b ∷ is) = omega (arith, join_size (b ∷ []) (parts is), parts_size is)
parts_size (echo bytes ∷ is) = omega (arith, join_size bytes (parts is), parts_size is)
parts_size (directive p ∷ is) = omega (arith, parts_size is)
parts_size (cut ∷ is) = omega (arith, parts_size is)

format_size : (format : List ℕ) → size (parts (items format)) ≤ length format * 11
format_size format = omega (arith, parts_size (items format), cost_read between format)

-- no stored form is longer
pub stored_most : (format : List ℕ) → length format ≤ longest_format → length (stored (parts (items format))) ≤ 22534
stored_most format h = omega (arith, stored_length (parts (items format)), format_size format)

-- ## The longest

-- a directive of two bytes, so many times
unfoldable pub years : ℕ → List ℕ
years zero = []
years (suc n) = byte "%" ∷ byte "Y" ∷ years n

years_length : (n : ℕ) → length (years n) ≡ n * 2
unfolding years
years_length zero = omega arith
years_length (suc n) = omega (arith, years_length n)

pub years_read : (n : ℕ) → items (years (suc n)) ≡ directive (piece_of outset None false (number Year4Digits)) ∷ items (years n)
unfolding years read step turn on_flag on_letter look_up possible_specs
years_read n = refl

-- so many directives and nothing else
pub record Directives (n : ℕ) (ps : List Part) : Type 0 where
  pub literals : length (literals_in ps) ≡ 0
  pub directives : length (pieces_in ps) ≡ n
  pub steps : length ps ≡ n

one_more : {n : ℕ} (p : Piece) (is : List Item) → Directives n (parts is) → Directives (suc n) (parts (directive p ∷ is))
unfolding parts literals_in pieces_in
one_more p is d = record { literals = d.literals; directives = omega (arith, d.directives); steps = omega (arith, d.steps) }

years_parts : (n : ℕ) → Directives n (parts (items (years n)))
years_parts zero = unfold years read ending parts literals_in pieces_in in record { literals = refl; directives = refl; steps = refl }
years_parts (suc n) = rw (years_read n) (one_more _ (items (years n)) (years_parts n))

-- `%Y` 2,048 times is a format of 4,096 bytes
pub longest_stored : (length (years 2048) ≡ longest_format) × (length (stored (parts (items (years 2048)))) ≡ 22534)
longest_stored = let d = years_parts 2048 in (years_length 2048, omega (arith, stored_length (parts (items (years 2048)))))

-- ## Every directive that is read can be stored

given_join : (bytes : List ℕ) (ps : List Part) → AllGiven (pieces_in ps) → AllGiven (pieces_in (join_text bytes ps))
given_join bytes ps g = rw (join_pieces bytes ps) g

given_parts : (is : List Item) → AllItems ItemOk is → AllGiven (pieces_in (parts is))
unfolding parts pieces_in AllGiven
given_parts [] g = tt
given_parts (literal b ∷ is) g = given_join (b ∷ []) (parts is) (given_parts is g.1)
given_parts (echo bytes ∷ is) g = given_join bytes (parts is) (given_parts is g.1)
given_parts (directive p ∷ is) g = (record { width = g.0; unskipped = refl }, given_parts is g.1)
given_parts (cut ∷ is) g = given_parts is g.1

pub storable : (format : List ℕ) → length format ≤ longest_format → Storable (parts (items format))
storable format h =
    let c = format_size format in
    record { literals = omega arith; directives = omega arith; steps = omega arith; given = given_parts (items format) (items_ok format) }
