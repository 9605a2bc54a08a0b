-- How the rows that a reader has left follow its reads.
use Rattle.std.proofs.Common.{◌≡◌, ◌∙◌, sym, refl, ap, arith, ℕ, zero, suc, ◌+◌, ◌-◌, ◌≤◌, Bool, true, false, List, [], ◌∷◌, ◌++◌, length, Option, Some, None}
use Rattle.std.specs.Prelude.{IfSome, IsSome, if◌then◌else◌}
use Rattle.std.specs.Bool.{MatchBool}
use Rattle.std.specs.Borrow.{Bor}
use Rattle.csv.specs.Machine.{Read, after_end, ends_at_end, field_after, fields_after, in_field, is_end, next_record, start_field, start_record, step}
use Rattle.csv.specs.Reading.{NextIs, ReadRecord, ReadsNext, Ready, default_config, has_failed, is_bom, pending_of, reader_trim, records_from, records_next, strip_bom}
use Rattle.csv.specs.declared.parser.Config.{Config}
use Rattle.csv.specs.declared.parser.State.{State}
use Rattle.csv.specs.declared.parser.State.TheVariants as st
use Rattle.csv.specs.declared.parser.Action.{Action}
use Rattle.csv.specs.declared.parser.Terminator.{Terminator}
use Rattle.csv.specs.declared.reader.Trim.TheVariants as trim
use Rattle.row_reader.specs.Rows.{Row, ReadsRows, TextReader, bytes_left, rows_from, rows_left, rows_of}

-- the state after a terminator is outside a record
outside-after_end : (t : Terminator) (c : ℕ) → ends_at_end (after_end t c) ≡ false
outside-after_end t c = grind arith

-- a byte that ends a record leaves a state outside one
abbrev EndsOutside : State × Action → Type 0
EndsOutside r = is_end r.1 ≡ true → ends_at_end r.0 ≡ false

-- so does a byte in a field
outside-in_field : (cfg : Config) (c : ℕ) → EndsOutside (in_field cfg c)
outside-in_field cfg c e = grind (arith, outside-after_end)

-- and at the start of one
outside-start_field : (cfg : Config) (c : ℕ) → EndsOutside (start_field cfg c)
outside-start_field cfg c e = grind (arith, outside-after_end)

-- and at the start of a record
outside-start_record : (cfg : Config) (c : ℕ) → EndsOutside (start_record cfg c)
outside-start_record cfg c e = grind (arith, outside-after_end)

-- and in every state
outside-step : (cfg : Config) (s : State) (c : ℕ) → EndsOutside (step cfg s c)
outside-step cfg st.StartRecord c e = outside-start_record cfg c e
outside-step cfg st.StartField c e = outside-start_field cfg c e
outside-step cfg st.InField c e = outside-in_field cfg c e
outside-step cfg st.InQuoted c e = grind arith
outside-step cfg st.InEscape c e = cc e
outside-step cfg st.AfterQuote c e = grind (arith, outside-after_end)
outside-step cfg st.InComment c e = grind arith
outside-step cfg st.AfterCr c e = grind (arith, outside-after_end)

-- a record that leaves at most n bytes, and a state outside a record
abbrev LeavesUpTo : ℕ → Read → Type 0
LeavesUpTo n r = (length r.2 ≤ n) × (ends_at_end r.1 ≡ false)

-- the bound may rise
leaves-more : (n m : ℕ) (o : Option Read) → n ≤ m → IfSome o (LeavesUpTo n) → IfSome o (LeavesUpTo m)
leaves-more n m None h l = tt
leaves-more n m (Some r) h l = (omega arith, l.1)

-- a record takes a byte, where there is one
leaves-next_record : (cfg : Config) (s : State) (fields : List (List ℕ)) (field bytes : List ℕ)
    → IfSome (next_record cfg s fields field bytes) (LeavesUpTo (length bytes - 1))
unfolding next_record
leaves-next_record cfg s fields field [] = by (ends_at_end s)
  where
    by : (b : Bool) → IfSome (if b then Some (fields ++ (field ∷ []), st.StartRecord, []) else None) (LeavesUpTo (0 - 1))
    by true = (omega arith, refl)
    by false = tt
leaves-next_record cfg s fields field (c ∷ rest) =
    by (is_end (step cfg s c).1) refl
    (leaves-next_record cfg (step cfg s c).0 (fields_after (step cfg s c).1 fields field) (field_after (step cfg s c).1 c field) rest)
  where
    more : Option Read
    more = next_record cfg (step cfg s c).0 (fields_after (step cfg s c).1 fields field) (field_after (step cfg s c).1 c field) rest

    by : (b : Bool) → is_end (step cfg s c).1 ≡ b → IfSome more (LeavesUpTo (length rest - 1))
        → IfSome (if b then Some (fields_after (step cfg s c).1 fields field, (step cfg s c).0, rest) else more) (LeavesUpTo (suc (length rest) - 1))
    by true e h = (omega arith, outside-step cfg s c e)
    by false e h = leaves-more _ _ more (omega arith) h

-- outside a record, no bytes are no rows
records_from-nil : (cfg : Config) (n : ℕ) (s : State) → ends_at_end s ≡ false → records_from cfg n s [] ≡ []
unfolding records_from next_record
records_from-nil cfg zero s e = refl
records_from-nil cfg (suc n) s e = rw e refl

-- two ways to go on that agree on what a record leaves agree after it
records_next-same : (f g : State → List ℕ → List Row) (n : ℕ) (o : Option Read) → IfSome o (LeavesUpTo n)
    → ((s : State) (bytes : List ℕ) → ends_at_end s ≡ false → length bytes ≤ n → f s bytes ≡ g s bytes) → records_next f o ≡ records_next g o
records_next-same f g n None l same = refl
records_next-same f g n (Some r) l same = ap (λ (more : List Row). r.0 ∷ more) (same r.1 r.2 l.1 l.0)

-- outside a record, as many turns as there are bytes give every row
records_from-turns : (cfg : Config) (n m : ℕ) (s : State) (bytes : List ℕ) → ends_at_end s ≡ false → length bytes ≤ n → length bytes ≤ m
    → records_from cfg n s bytes ≡ records_from cfg m s bytes
unfolding records_from
records_from-turns cfg n m s [] e hn hm = records_from-nil cfg n s e ∙ sym (records_from-nil cfg m s e)
records_from-turns cfg zero m s (c ∷ rest) e hn hm = absurd (omega arith)
records_from-turns cfg (suc n) zero s (c ∷ rest) e hn hm = absurd (omega arith)
records_from-turns cfg (suc n) (suc m) s (c ∷ rest) e hn hm =
    records_next-same (records_from cfg n) (records_from cfg m) (length (c ∷ rest) - 1) _ (leaves-next_record cfg s [] [] (c ∷ rest))
    (λ s2 left outside less. records_from-turns cfg n m s2 left outside (omega arith) (omega arith))

-- the rows from any state, by the next record
rows_from-next_record : (s : State) (bytes : List ℕ) (o : Option Read) → next_record default_config s [] [] bytes ≡ o
    → rows_from s (Some bytes) ≡ records_next (λ s2 left. rows_from s2 (Some left)) o
unfolding records_from
rows_from-next_record s bytes o e =
    let one : length bytes + 1 ≡ suc (length bytes) = omega arith in
    rw (one, ← e) (records_next-same (records_from default_config (length bytes)) (λ s2 left. rows_from s2 (Some left)) (length bytes - 1) _
    (leaves-next_record default_config s [] [] bytes)
    (λ s2 left outside less. records_from-turns default_config (length bytes) (length left + 1) s2 left outside (omega arith) (omega arith)))

-- a read takes the next of the rows
rows_from-read : (s s2 : State) (old new : Option (List ℕ)) (found : Bool) (fields : Row) → IsSome old → ReadsNext default_config s old new found fields s2
    → MatchBool found (rows_from s old ≡ fields ∷ rows_from s2 new) (rows_from s old ≡ [])
rows_from-read s s2 None new found fields known r = cc known
rows_from-read s s2 (Some bytes) None found fields known r = absurd r
rows_from-read s s2 (Some bytes) (Some left) found fields known r = by (next_record default_config s [] [] bytes) refl found r
  where
    by : (o : Option Read) → next_record default_config s [] [] bytes ≡ o → (b : Bool) → NextIs o b fields s2 left
        → MatchBool b (rows_from s (Some bytes) ≡ fields ∷ rows_from s2 (Some left)) (rows_from s (Some bytes) ≡ [])
    by None e true n = cc n
    by None e false n = rows_from-next_record s bytes None e
    by (Some p) e true n = rw (n.1, n.2, n.3) (rows_from-next_record s bytes (Some p) e)
    by (Some p) e false n = cc n.0

-- after a first read, no byte order mark is passed over
bytes_left-begun : (r : TextReader) → r.bom_checked ≡ true → bytes_left r ≡ pending_of (Some r.rdr.now) r
bytes_left-begun r e = rw e refl

-- the rows before a read and after it
pub rows_left-read : (old new : TextReader) (found : Bool) (fields : Row) → ReadsRows old → (has_failed old ≡ true → found ≡ false)
    → (reader_trim old ≡ trim.None → Ready old → ReadRecord (λ (s : Bor (List ℕ)). Some s.now) old new found fields)
    → MatchBool found (rows_left old ≡ fields ∷ rows_left new) (rows_left old ≡ [])
rows_left-read old new found fields rows stopped reads = by (has_failed old) refl
  where
    by : (b : Bool) → has_failed old ≡ b → MatchBool found (rows_left old ≡ fields ∷ rows_left new) (rows_left old ≡ [])
    by true e = rw (stopped e, e) refl
    by false e =
        let at = rows e in
        let r = reads at.trim at.ready in
        rw (bytes_left-begun new r.1) (rows_from-read old.state new.state (bytes_left old) _ found fields at.known (rw at.config at r.0))

-- outside a record, there are no more rows than bytes
length-records_from : (cfg : Config) (n : ℕ) (s : State) (bytes : List ℕ) → ends_at_end s ≡ false → length (records_from cfg n s bytes) ≤ length bytes
unfolding records_from
length-records_from cfg n s [] e = rw (records_from-nil cfg n s e) (omega arith)
length-records_from cfg zero s (c ∷ rest) e = omega arith
length-records_from cfg (suc n) s (c ∷ rest) e = by (next_record cfg s [] [] (c ∷ rest)) (leaves-next_record cfg s [] [] (c ∷ rest)) (length-records_from cfg n)
  where
    by : (o : Option Read) → IfSome o (LeavesUpTo (length (c ∷ rest) - 1))
        → ((s2 : State) (left : List ℕ) → ends_at_end s2 ≡ false → length (records_from cfg n s2 left) ≤ length left)
        → length (records_next (records_from cfg n) o) ≤ length (c ∷ rest)
    by None l fewer = omega arith
    by (Some r) l fewer = omega (arith, fewer r.1 r.2 l.1)

-- a text without its byte order mark is no longer
length-strip_bom : (text : List ℕ) → length (strip_bom text) ≤ length text
unfolding strip_bom
length-strip_bom [] = omega arith
length-strip_bom (a ∷ []) = omega arith
length-strip_bom (a ∷ b ∷ []) = omega arith
length-strip_bom (a ∷ b ∷ c ∷ rest) = by (is_bom a b c)
  where
    by : (mark : Bool) → length (if mark then rest else a ∷ b ∷ c ∷ rest) ≤ length (a ∷ b ∷ c ∷ rest)
    by true = omega arith
    by false = omega arith

-- a text has no more rows than bytes
pub length-rows_of : (text : List ℕ) → length (rows_of text) ≤ length text
length-rows_of text = omega (arith, length-records_from default_config (length (strip_bom text) + 1) st.StartRecord (strip_bom text) refl, length-strip_bom text)
