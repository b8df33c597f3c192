-- What wide copies leave of a batch.
use Rattle.std.proofs.Common.{◌≡◌, ℕ, ◌+◌, ◌-◌, ◌≤◌, List, ◌++◌, length, take, ap, ◌∙◌, sym, append_assoc}
use Rattle.std.proofs.Common.{take-add, arith}
use Rattle.std.proofs.lemmas.List.{take-take, length-take-le}
use Rattle.std.proofs.lemmas.Simd.{take_more_put_chunk, length-chunk, length-put_chunk}
use lib.Lanes.{chunk, put_chunk}
use lib.Seq.{take-append-add}

-- the first `n` of its bytes stand behind the first `len`
pub stride_written : (len n k : ℕ) (batch bytes : List ℕ) → n ≤ k → k ≤ length bytes → len + k ≤ length batch
    → take (len + n) (put_chunk len batch (chunk 0 k bytes)) ≡ take len batch ++ take n bytes
stride_written len n k batch bytes few long room =
    let written = chunk 0 k bytes in
    let all : length written ≡ k = length-chunk 0 k bytes (omega arith) in
    let whole = take_more_put_chunk len batch written (len + k) (omega arith) (omega arith) in
    let at : length (take len batch) ≡ len = length-take-le len batch (omega arith) in
    sym (take-take (len + n) (len + k) (put_chunk len batch written) (omega arith))
    ∙ ap (take (len + n)) whole ∙ ap (λ j. take (j + n) (take len batch ++ written)) (sym at)
    ∙ take-append-add (take len batch) written n ∙ ap (λ x. take len batch ++ x) (take-take n k bytes few)

-- two copies that may overlap: the first `k` bytes, and the last `k` of the first `n`
pub ends_written : (len n k : ℕ) (batch bytes : List ℕ) → k ≤ n → n ≤ k + k → n ≤ length bytes → len + n ≤ length batch
    → take (len + n) (put_chunk (len + (n - k)) (put_chunk len batch (chunk 0 k bytes)) (chunk (n - k) k bytes))
    ≡ take len batch ++ take n bytes
ends_written len n k batch bytes some few long room =
    let first = put_chunk len batch (chunk 0 k bytes) in
    let last = chunk (n - k) k bytes in
    let all : length last ≡ k = length-chunk (n - k) k bytes (omega arith) in
    let wide : length first ≡ length batch = length-put_chunk len batch (chunk 0 k bytes) in
    let whole = take_more_put_chunk (len + (n - k)) first last (len + n) (omega arith) (omega arith) in
    let before = stride_written len (n - k) k batch bytes (omega arith) (omega arith) (omega arith) in
    let sum : n - k + k ≡ n = omega arith in
    whole ∙ ap (λ x. x ++ last) before ∙ append_assoc (take len batch) (take (n - k) bytes) last
    ∙ ap (λ x. take len batch ++ x) (sym (take-add (n - k) k bytes) ∙ ap (λ j. take j bytes) sum)
