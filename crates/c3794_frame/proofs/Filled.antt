-- Bytes that are filled up with idle ones.
use Rattle.std.proofs.Common.{◌≡◌, ℕ, Bool, ◌+◌, ◌-◌, ◌<◌, ◌≤◌, List, ◌++◌, length, take, drop, get_or, replicate, refl, arith, ap, sym, ◌∙◌, length-append}
use Rattle.std.proofs.lemmas.List.{ext_get_or, get_or-append_right, get_or-drop, get_or-replicate, length-drop, length-replicate, length-take-le, take-append-drop}
use Rattle.c3794_frame.specs.Frame.{IsFrame, filled}
use Rattle.c3794_frame.specs.FrameOf.{Layout}

-- they are twelve
pub length-filled : (bytes : List ℕ) → length bytes ≤ 12 → length (filled bytes) ≡ 12
length-filled bytes few = omega (arith, length-append bytes (replicate (12 - length bytes) 255), length-replicate {A = ℕ} (12 - length bytes) 255)

-- and idle behind the first
pub filled-idle : (bytes : List ℕ) (k : ℕ) → length bytes ≤ k → k < 12 → get_or (filled bytes) k 0 ≡ 255
filled-idle bytes k past below =
    get_or-append_right bytes (replicate (12 - length bytes) 255) (length bytes) k 0 refl past
    ∙ get_or-replicate (12 - length bytes) (k - length bytes) 255 0 (omega arith)

-- twelve bytes that are idle behind the first
pub filled-first : (n : ℕ) (payload : List ℕ) → n ≤ 12 → length payload ≡ 12 → ((k : ℕ) → n ≤ k → k < 12 → get_or payload k 0 ≡ 255)
    → (length (take n payload) ≡ n) × (filled (take n payload) ≡ payload)
filled-first n payload few twelve unused =
    let long : length (take n payload) ≡ n = length-take-le n payload (omega arith) in
    let rest : length (drop n payload) ≡ 12 - n = length-drop n payload ∙ omega arith in
    let idle : drop n payload ≡ replicate (12 - n) 255 = ext_get_or 0 (drop n payload) (replicate (12 - n) 255) (rest ∙ sym (length-replicate {A = ℕ} (12 - n) 255))
    (λ i below. get_or-drop n payload i 0 ∙ unused (n + i) (omega arith) (omega arith) ∙ sym (get_or-replicate (12 - n) i 255 0 (omega arith))) in
    (long, ap (λ k. take n payload ++ replicate (12 - k) 255) long ∙ ap (λ xs. take n payload ++ xs) (sym idle) ∙ take-append-drop n payload)

-- a frame of the bytes of its channels
pub frame-whole : (f : Layout) (odd yellow : Bool) (n : ℕ) (payload : List ℕ) → IsFrame f
    → odd ≡ f.odd → yellow ≡ f.yellow → n ≡ f.channels → payload ≡ f.payload
    → record { odd = odd; channels = length (take n payload); yellow = yellow; payload = filled (take n payload) } ≡ f
frame-whole f odd yellow n payload is same_odd same_yellow same_channels same_payload =
    let few : n ≤ 12 = omega (arith, is.few) in
    let first = filled-first n payload few (ap length same_payload ∙ is.twelve)
    (λ k past below. ap (λ xs. get_or xs k 0) same_payload ∙ is.unused k (omega arith) below) in
    rw (same_odd, same_yellow, first.1 ∙ same_payload, first.0, same_channels) refl

-- and one with these bytes
pub frame-first : (f : Layout) (odd yellow : Bool) (n : ℕ) (payload : List ℕ) → n ≤ 12 → length payload ≡ 12
    → ((k : ℕ) → n ≤ k → k < 12 → get_or payload k 0 ≡ 255)
    → f ≡ record { odd = odd; channels = n; yellow = yellow; payload = payload }
    → f ≡ record { odd = odd; channels = length (take n payload); yellow = yellow; payload = filled (take n payload) }
frame-first f odd yellow n payload few twelve unused is =
    let first = filled-first n payload few twelve unused in
    let make : ℕ → List ℕ → Layout = λ k bytes. record { odd = odd; channels = k; yellow = yellow; payload = bytes } in
    is ∙ ap (λ k. make k payload) (sym first.0) ∙ ap (make (length (take n payload))) (sym first.1)
