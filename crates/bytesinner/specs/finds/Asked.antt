-- What a search is asked: the needle and the offsets that its options mean. Assumes nothing.
use Rattle.std.specs.Prelude.{◌≡◌, ℕ, if◌then◌else◌, List, [], ◌∷◌, length, ℤ, pos, negsuc, Ok, Err, Result, nat_le}
use Rattle.std.specs.Prelude.{nat_lt}
use Rattle.std.specs.Borrow.{Bor}
use Rattle.std.specs.declared.ops.Range.{Range}
use Rattle.anystr.specs.Bytes.{byte_list}
use Rattle.anystr.specs.Indices.{start_of, end_of}
use Rattle.anystr.specs.Limits.{most_bytes}
use Rattle.anystr.specs.Refusals.{code}
use Rattle.anystr.specs.declared.bytes.Bytes.{Bytes}
use Rattle.anystr.specs.declared.refusal.Refusal.{Refusal}
use Rattle.bytesinner.specs.declared.finds.either.Either.{Either}
use Rattle.bytesinner.specs.declared.finds.either.Either.TheVariants.{A, B}
use Rattle.bytesinner.specs.declared.finds.options.ByteInnerFindOptions.{ByteInnerFindOptions}
use Rattle.bytesinner.specs.declared.finds.options.Needle.{Needle}
use Rattle.bytesinner.specs.declared.finds.options.Needle.TheVariants as needle_cases
use Rattle.bytesinner.specs.declared.finds.stretch.Stretch.{Stretch}

-- the byte that a number is, or its refusal
abbrev pub byte_of : ℤ → Result ℕ (ℕ × ℕ)
byte_of (pos n) = if nat_lt n 256 then Ok n else Err (2, 0)
byte_of (negsuc _) = Err (2, 0)

-- the needle of that one byte
abbrev pub byte_needle : Result ℕ (ℕ × ℕ) → Result (List ℕ) (ℕ × ℕ)
byte_needle (Ok b) = Ok (b ∷ [])
byte_needle (Err c) = Err c

-- the needle that a sub means, or its refusal
abbrev pub sub_of : Either (Bor (List ℕ)) ℤ → Result (List ℕ) (ℕ × ℕ)
sub_of (A bytes) = if nat_le (length bytes.now) most_bytes then Ok bytes.now else Err (6, 0)
sub_of (B number) = byte_needle (byte_of number)

-- an answer for a needle, or its refusal
abbrev pub for_needle : {X : Type 0} → (List ℕ → X) → Result (List ℕ) (ℕ × ℕ) → Result X (ℕ × ℕ)
for_needle f (Ok n) = Ok (f n)
for_needle f (Err c) = Err c

-- an answer for the needle and the offsets that options mean in `len` bytes, or the needle's refusal
abbrev pub answer_in : {X : Type 0} → (List ℕ → ℕ → ℕ → X) → ByteInnerFindOptions → ℕ → Result X (ℕ × ℕ)
answer_in f o len = for_needle (λ n. f n (start_of o.start len) (end_of o.end len)) (sub_of o.sub)

-- the same of a search that is asked of some bytes: its answer for what options mean in them
abbrev pub answer_of : {X : Type 0} → (List ℕ → List ℕ → ℕ → ℕ → X) → List ℕ → ByteInnerFindOptions → Result X (ℕ × ℕ)
answer_of search_of bytes o = answer_in (search_of bytes) o (length bytes)

-- a needle, and the offsets between which it is sought
abbrev pub Target : Type 0
Target = List ℕ × ℕ × ℕ

-- the same by its parts
abbrev pub target : List ℕ → ℕ → ℕ → Target
target n a b = (n, a, b)

-- the bytes of a needle
abbrev pub needle_bytes : Needle → List ℕ
needle_bytes (needle_cases.Bytes bytes) = bytes.now
needle_bytes (needle_cases.Byte byte) = byte

-- a needle and its range, by their bytes and numbers, with a refusal by its code
abbrev pub coded_target : Result (Needle × Range ℕ) Refusal → Result Target (ℕ × ℕ)
coded_target (Ok v) = Ok (target (needle_bytes v.0) v.1.start v.1.end)
coded_target (Err e) = Err (code e)

-- an answer keeps a rule for the needle, or is refused as the needle is
abbrev pub Kept : {X : Type 0} → (List ℕ → X → Type 0) → Result (List ℕ) (ℕ × ℕ) → Result X Refusal → Type 0
Kept rule (Ok n) (Ok x) = rule n x
Kept rule (Ok n) (Err e) = ⊥
Kept rule (Err c) (Ok x) = ⊥
Kept rule (Err c) (Err e) = code e ≡ c

-- an answer keeps a rule about some bytes, for the needle and the offsets that options mean in them
abbrev pub Keeps : {X : Type 0} → (List ℕ → List ℕ → ℕ → ℕ → X → Type 0) → List ℕ → ByteInnerFindOptions
    → Result X Refusal → Type 0
Keeps rule bytes o r =
    Kept (λ n. rule bytes n (start_of o.start (length bytes)) (end_of o.end (length bytes))) (sub_of o.sub) r

-- a stretch and a needle are what options mean in a text
pub record Meant (o : ByteInnerFindOptions) (text : Bytes) (stretch : Stretch) (needle : List ℕ) : Type 0 where
  pub whole : stretch.text ≡ text
  pub sub : sub_of o.sub ≡ Ok needle
  pub start : stretch.range.start ≡ start_of o.start (length (byte_list text))
  pub end : stretch.range.end ≡ end_of o.end (length (byte_list text))
