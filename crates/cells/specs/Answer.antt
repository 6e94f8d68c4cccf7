-- What parsing and printing answer, and what they leave in the output.
use Rattle.std.specs.Prelude.{◌≡◌, List, ◌++◌, ℕ, Result, Ok, Err, ltb, leb, eqb, length, drop}
use Rattle.octets.specs.Text.{pick}
use Rattle.cells.specs.declared.answer.Refusal.{Refusal}
use Rattle.cells.specs.declared.answer.Refusal.TheVariants.{TooLong, Unreadable, Short}

abbrev pub Answer : Type 0
Answer = Result ℕ Refusal

-- the number that document 01 gives each answer, and the count of cells or octets that comes with it
abbrev pub number_of : Answer → ℕ
number_of (Ok n) = 0
number_of (Err TooLong) = 3
number_of (Err Unreadable) = 15
number_of (Err Short) = 10

abbrev pub count_of : Answer → ℕ
count_of (Ok n) = n
count_of (Err r) = 0

-- for an input of n octets that has the result xs, which is empty where there is none, and an output of so much room; checked
-- in document 01's order 3, 15, 10
unfoldable pub answer_to : ℕ → List ℕ → ℕ → Answer
answer_to n xs room =
    pick (ltb 65535 n) (Err TooLong) (pick (eqb (length xs) 0) (Err Unreadable) (pick (leb (length xs) room) (Ok (length xs)) (Err Short)))

-- the output: the result and what stood behind it, and as it was on refusal
abbrev pub output_of : Answer → List ℕ → List ℕ → List ℕ
output_of (Ok n) xs old = xs ++ drop n old
output_of (Err r) xs old = old

-- an input of size octets that has the result xs: the answer r, and the output new where old was lent
pub record Parsed (size : ℕ) (xs old : List ℕ) (r : Answer) (new : List ℕ) : Type 0 where
  pub answer : r ≡ answer_to size xs (length old)
  pub output : new ≡ output_of r xs old
