-- front bytes       the whole record in front of some bytes, as its kind, its body and the bytes behind it, or none
-- Records           bytes cut into records: nothing (none), an incomplete record (cut), or a record and what follows (next)
-- records bytes     some bytes cut into records
-- written k body    the bytes of a record of kind k
-- ReadBack          records that are written are read back
-- size_of body      how many bytes a record with this body takes
-- followed xs rs    the records xs, each as its kind and its body, and then the records rs
-- sizes xs          how many bytes the records xs take
use Rattle.std.specs.Prelude.{◌≡◌, ℕ, zero, suc, ◌+◌, ◌*◌, ◌/◌, ◌%◌, ◌<◌, cond, List, [], ◌∷◌, ◌++◌, length, take, drop, Some, None, Option, nat_le}

-- the body of n bytes at the beginning, if there are as many
abbrev pub bodied : ℕ → ℕ → List ℕ → Option (ℕ × List ℕ × List ℕ)
bodied n kind bytes = cond (nat_le n (length bytes)) (Some (kind, take n bytes, drop n bytes)) None

-- a length and a kind of two bytes each, the low byte first, then the body
abbrev pub front : List ℕ → Option (ℕ × List ℕ × List ℕ)
front [] = None
front (a ∷ []) = None
front (a ∷ b ∷ []) = None
front (a ∷ b ∷ c ∷ []) = None
front (a ∷ b ∷ c ∷ d ∷ bytes) = bodied (a + b * 256) (c + d * 256) bytes

pub data Records : Type 0 where
  none : Records
  cut : Records
  next : ℕ → List ℕ → Records → Records

-- the record in front and what the bytes behind it give
abbrev pub before : (List ℕ → Records) → Option (ℕ × List ℕ × List ℕ) → Records
before further None = cut
before further (Some t) = next t.0 t.1 (further t.2)

-- at most n records in front
unfoldable pub up_to : ℕ → List ℕ → Records
up_to n [] = none
up_to zero (b ∷ bytes) = cut
up_to (suc n) (b ∷ bytes) = before (up_to n) (front (b ∷ bytes))

-- each record takes at least one byte, so there are no more of them than bytes
unfoldable pub records : List ℕ → Records
records bytes = up_to (length bytes) bytes

abbrev pub written : ℕ → List ℕ → List ℕ
written kind body = length body % 256 ∷ length body / 256 ∷ kind % 256 ∷ kind / 256 ∷ body

-- for every kind and length that two bytes can tell, whatever follows
abbrev pub ReadBack : Type 0
ReadBack = (kind : ℕ) (body bytes : List ℕ) → kind < 65536 → length body < 65536 → records (written kind body ++ bytes) ≡ next kind body (records bytes)

abbrev pub size_of : List ℕ → ℕ
size_of body = 4 + length body

abbrev pub followed : List (ℕ × List ℕ) → Records → Records
followed [] rest = rest
followed (x ∷ front) rest = next x.0 x.1 (followed front rest)

abbrev pub sizes : List (ℕ × List ℕ) → ℕ
sizes [] = 0
sizes (x ∷ front) = size_of x.1 + sizes front
