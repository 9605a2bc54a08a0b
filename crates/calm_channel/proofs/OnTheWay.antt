-- Frames on their way, 125 ticks apart: the queue of a line with one delay.
use Rattle.std.proofs.Common.{◌≡◌, ℕ, suc, ◌+◌, ◌-◌, ◌*◌, ◌<◌, ◌≤◌, inl, inr, Bool, true, false, if◌then◌else◌, nat_le, nat_lt, List, [], ◌∷◌, ◌++◌, Option, None, Some, drop, drop-cons, flat_map, get_or, length, length-drop, length-take-le, take, take-suc, take_all, unwrap_or, ap, refl, sym, ◌∙◌, append-nil, arith}
use Rattle.std.proofs.lemmas.Bool.{cases_lt}
use Rattle.std.proofs.lemmas.Grind.{flat_map-append}
use Rattle.std.proofs.lemmas.List.{drop-append-le, take-append-le}
use Rattle.std.proofs.lemmas.Bool.Decides.{nat_tests}
use Rattle.ld_base.specs.Script.{Due, after_due, first_due, queued}

-- bits more at the end of some lists of bits
flat_map-push : (frames : List (List ℕ)) (frame : List ℕ) → flat_map (λ bits. bits) (frames ++ frame ∷ []) ≡ flat_map (λ bits. bits) frames ++ frame
flat_map-push frames frame = flat_map-append (λ bits. bits) frames (frame ∷ []) ∙ ap (λ (bits : List ℕ). flat_map (λ bits. bits) frames ++ bits) (append-nil frame)

-- frames, the first of them due at that tick
abbrev pub on_way : ℕ → List (List ℕ) → List Due
on_way due [] = []
on_way due (frame ∷ frames) = record { due = due; bits = frame } ∷ on_way (due + 125) frames

-- one frame more is the last to come
pub queued-last : (due last : ℕ) (frames : List (List ℕ)) (frame : List ℕ) → last ≡ due + 125 * length frames
    → queued (on_way due frames) (record { due = last; bits = frame }) ≡ on_way due (frames ++ frame ∷ [])
queued-last due last [] frame is = ap (λ (d : ℕ). record { due = d; bits = frame } ∷ []) (omega (arith, is))
queued-last due last (first ∷ frames) frame is =
    let chunk : Due = record { due = last; bits = frame } in
    let rest : List Due = on_way (due + 125) frames in
    let test : nat_lt last due ≡ false = grind (arith, nat_tests, is) in
    ap (λ (b : Bool). if b then chunk ∷ record { due = due; bits = first } ∷ rest else record { due = due; bits = first } ∷ queued rest chunk) test
    ∙ ap (λ (all : List Due). record { due = due; bits = first } ∷ all) (queued-last (due + 125) last frames frame (omega (arith, is)))

-- the first frame comes at its tick
module _ (due t : ℕ) (first : List ℕ) (frames : List (List ℕ)) where
  abbrev behind : List Due
  behind = on_way (due + 125) frames

  pub first-comes : due ≤ t → first_due (on_way due (first ∷ frames)) t ≡ Some first
  first-comes now =
      let test : nat_le due t ≡ true = grind (arith, nat_tests) in
      ap (λ (b : Bool). if b then Some first else None) test

  pub rest-stays : due ≤ t → after_due (on_way due (first ∷ frames)) t ≡ behind
  rest-stays now =
      let test : nat_le due t ≡ true = grind (arith, nat_tests) in
      ap (λ (b : Bool). if b then behind else record { due = due; bits = first } ∷ behind) test

-- and before it nothing comes
pub none-comes : (due t : ℕ) (frames : List (List ℕ)) → t < due → first_due (on_way due frames) t ≡ None
none-comes due t [] early = refl
none-comes due t (first ∷ frames) early =
    let test : nat_le due t ≡ false = grind (arith, nat_tests) in
    ap (λ (b : Bool). if b then Some first else None) test

pub all-stay : (due t : ℕ) (frames : List (List ℕ)) → t < due → after_due (on_way due frames) t ≡ on_way due frames
all-stay due t [] early = refl
all-stay due t (first ∷ frames) early =
    let test : nat_le due t ≡ false = grind (arith, nat_tests) in
    ap (λ (b : Bool). if b then on_way (due + 125) frames else on_way due (first ∷ frames)) test

-- a line with a delay that was asked in the ticks below one, of whose frames the first `sent` went out, each 125 ticks after the one before:
-- which of them have come, and which are on their way
pub record OnLine (delay asked sent : ℕ) (frames : List (List ℕ)) (queue : List Due) (line : List ℕ) : Type 0 where
  pub come : ℕ
  pub early : (k : ℕ) → k < come → 125 * k + delay < asked
  pub late : asked ≤ 125 * come + delay
  pub within : come ≤ sent
  pub queue_is : queue ≡ on_way (125 * come + delay) (drop come (take sent frames))
  pub line_is : line ≡ flat_map (λ bits. bits) (take come frames)

pub OnLine-none : (delay : ℕ) → OnLine delay 0 0 [] [] []
OnLine-none delay = record {
  come = 0;
  early = λ k below. absurd (omega (arith, below));
  late = omega arith;
  within = omega arith;
  queue_is = refl;
  line_is = refl;
}

module _ (delay asked sent : ℕ) (frames : List (List ℕ)) (queue : List Due) (line : List ℕ) (is : OnLine delay asked sent frames queue line) where
  -- a frame more that hasn't gone out
  pub OnLine-frame : (frame : List ℕ) → length frames ≡ sent → OnLine delay asked sent (frames ++ frame ∷ []) queue line
  OnLine-frame frame long = record {
    come = is.come;
    early = is.early;
    late = is.late;
    within = is.within;
    queue_is =
        is.queue_is ∙ ap (λ (fs : List (List ℕ)). on_way (125 * is.come + delay) (drop is.come fs)) (sym (take-append-le sent frames (frame ∷ []) (omega (arith, long))));
    line_is = is.line_is ∙ ap (flat_map (λ bits. bits)) (sym (take-append-le is.come frames (frame ∷ []) (omega (arith, long, is.within))));
  }

  -- the next frame goes out
  pub OnLine-sent : (frame : List ℕ) → get_or frames sent frame ≡ frame → length frames ≡ suc sent
      → OnLine delay asked (suc sent) frames (queued queue (record { due = 125 * sent + delay; bits = frame })) line
  OnLine-sent frame next long =
      let left : List (List ℕ) = take sent frames in
      let taken : length left ≡ sent = length-take-le sent frames (omega (arith, long)) in
      let behind : length (drop is.come left) ≡ sent - is.come = length-drop is.come left ∙ ap (λ (n : ℕ). n - is.come) taken in
      let last : 125 * sent + delay ≡ 125 * is.come + delay + 125 * length (drop is.come left) = omega (arith, behind, is.within) in
      let more : take (suc sent) frames ≡ left ++ frame ∷ [] =
      take-suc frames sent frame (omega (arith, long)) ∙ ap (λ (f : List ℕ). left ++ f ∷ []) next in
      record {
        come = is.come;
        early = is.early;
        late = is.late;
        within = omega (arith, is.within);
        queue_is =
            ap (λ (q : List Due). queued q (record { due = 125 * sent + delay; bits = frame })) is.queue_is
            ∙ queued-last (125 * is.come + delay) (125 * sent + delay) (drop is.come left) frame last
            ∙ ap (on_way (125 * is.come + delay)) (sym (drop-append-le is.come left (frame ∷ []) (omega (arith, taken, is.within))) ∙ ap (drop is.come) (sym more));
        line_is = is.line_is;
      }

  -- the line is asked in the next tick
  pub OnLine-asked : 1 ≤ delay → asked ≤ 125 * sent → length frames ≡ sent
      → OnLine delay (suc asked) sent frames (after_due queue asked) (line ++ unwrap_or (first_due queue asked) [])
  OnLine-asked some low long = elim (cases_lt asked (125 * is.come + delay)) [ inl waits ↦ nothing_comes waits | inr comes ↦ frame_comes comes ]
    where
      nothing_comes : asked < 125 * is.come + delay → OnLine delay (suc asked) sent frames (after_due queue asked) (line ++ unwrap_or (first_due queue asked) [])
      nothing_comes waits = record {
        come = is.come;
        early = λ k below. let before = is.early k below in omega (arith, before);
        late = omega (arith, waits);
        within = is.within;
        queue_is =
            ap (λ (q : List Due). after_due q asked) is.queue_is ∙ all-stay (125 * is.come + delay) asked (drop is.come (take sent frames)) waits;
        line_is =
            ap (λ (q : List Due). line ++ unwrap_or (first_due q asked) []) is.queue_is
            ∙ ap (λ (bits : Option (List ℕ)). line ++ unwrap_or bits []) (none-comes (125 * is.come + delay) asked (drop is.come (take sent frames)) waits)
            ∙ append-nil line ∙ is.line_is;
      }

      frame_comes : 125 * is.come + delay ≤ asked → OnLine delay (suc asked) sent frames (after_due queue asked) (line ++ unwrap_or (first_due queue asked) [])
      frame_comes comes =
          let there : is.come < sent = omega (arith, comes, low, some) in
          let whole : take sent frames ≡ frames = take_all sent frames (omega (arith, long)) in
          let first : List ℕ = get_or frames is.come [] in
          let split : drop is.come (take sent frames) ≡ first ∷ drop (suc is.come) (take sent frames) =
          ap (drop is.come) whole ∙ drop-cons frames is.come [] (omega (arith, there, long)) ∙ ap (λ (fs : List (List ℕ)). first ∷ drop (suc is.come) fs) (sym whole) in
          let front : queue ≡ on_way (125 * is.come + delay) (first ∷ drop (suc is.come) (take sent frames)) = is.queue_is ∙ ap (on_way (125 * is.come + delay)) split in
          let next : 125 * is.come + delay + 125 ≡ 125 * suc is.come + delay = omega arith in
          record {
            come = suc is.come;
            early = λ k below. omega (arith, below, comes);
            late = omega (arith, is.late);
            within = there;
            queue_is =
                ap (λ (q : List Due). after_due q asked) front
                ∙ rest-stays (125 * is.come + delay) asked first (drop (suc is.come) (take sent frames)) comes
                ∙ ap (λ (due : ℕ). on_way due (drop (suc is.come) (take sent frames))) next;
            line_is =
                ap (λ (q : List Due). line ++ unwrap_or (first_due q asked) []) front
                ∙ ap (λ (bits : Option (List ℕ)). line ++ unwrap_or bits []) (first-comes (125 * is.come + delay) asked first (drop (suc is.come) (take sent frames)) comes)
                ∙ ap (λ (bits : List ℕ). bits ++ first) is.line_is
                ∙ sym (flat_map-push (take is.come frames) first)
                ∙ ap (flat_map (λ bits. bits)) (sym (take-suc frames is.come [] (omega (arith, there, long))));
          }
