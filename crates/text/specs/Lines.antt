-- Section 5: a line that is built, and a line that is put into a lent buffer.
use Rattle.std.specs.Prelude.{◌≡◌, Bool, List, ◌++◌, ℕ, ◌+◌, leb, length, take, drop, Option, None, Some}
use Rattle.model.specs.Vocabulary.{pick}
use Rattle.bounded.specs.Items.{items_of}
use Rattle.text.specs.declared.Line.{Line}

-- The text of a line: its bytes.
abbrev pub text_of : Line → List ℕ
text_of l = items_of l.bytes

-- What a line can hold of a text: its first 64 bytes.
unfoldable pub held : List ℕ → List ℕ
held s = take 64 s

-- r is the line l with s at its end. What does not go into the line is dropped.
pub record Pushed (l : Line) (s : List ℕ) (r : Line) : Type 0 where
  pub text : text_of r ≡ held (text_of l ++ s)

-- r was built from an empty line: it holds of s what a line can hold.
pub record Built (s : List ℕ) (r : Line) : Type 0 where
  pub text : text_of r ≡ held s

-- Does a text fit into out at a position?
unfoldable pub fits : List ℕ → ℕ → List ℕ → Bool
fits out at s = leb (at + length s) (length out)

-- The buffer with the text at a position; as it was, if the text does not fit.
unfoldable pub written : List ℕ → ℕ → List ℕ → List ℕ
written out at s = pick (fits out at s) (take at out ++ s ++ drop (at + length s) out) out

-- The position after the text, if it fits.
unfoldable pub room_after : List ℕ → ℕ → List ℕ → Option ℕ
room_after out at s = pick (fits out at s) (Some (at + length s)) None

-- A buffer with a text at its start: the bytes past the text stay.
unfoldable pub over : List ℕ → List ℕ → List ℕ
over out t = t ++ drop (length t) out
