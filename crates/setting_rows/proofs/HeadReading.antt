-- How the rows of settings that are left to read go on to say what all of them say.
use Rattle.std.proofs.Common.{◌≡◌, ◌∙◌, sym, refl, ap, arith, ℕ, suc, ◌+◌, true, List, [], ◌∷◌, length, drop, Option, Some, None}
use Rattle.std.specs.Prelude.{fold, not}
use Rattle.std.specs.List.{position_or_len}
use Rattle.ld_base.specs.declared.reason.Reason.{Reason}
use Rattle.row_reader.specs.Faults.{first_fault}
use Rattle.row_reader.specs.Rows.{Row}
use Rattle.row_reader.specs.declared.fault.Fault.{Fault}
use Rattle.setting_rows.specs.Ahead.{Ahead, HasHead, IsNextHeading}
use Rattle.setting_rows.specs.Head.{Head, body_rows, head_of, head_rows, heading_fault, heading_faults, is_heading, no_settings, with_heading}
use Rattle.setting_rows.specs.Refusals.{RefusedBy, Tells, misread_at}
use Rattle.setting_rows.specs.declared.refusal.Refusal.{Refusal}
use Rattle.setting_rows.specs.declared.refusal.Refusal.TheVariants.{NoMemory, Breaks}
use Rattle.setting_rows.specs.declared.setting.Known.{Known}

-- the rows of the settings that are left say the rest
pub record IsOpen (known : Known) (all : Ahead) (head : Head) (rows : Ahead) : Type 0 where
  pub whole : head_of known all.left ≡ fold (with_heading known) head (head_rows rows.left)
  pub faults : first_fault (all.taken + 1) (heading_faults known no_settings (head_rows all.left)) ≡ first_fault (rows.taken + 1) (heading_faults known head (head_rows rows.left))
  pub taken : all.taken + length (head_rows all.left) ≡ rows.taken + length (head_rows rows.left)
  pub left : body_rows all.left ≡ body_rows rows.left

-- at first all are left
pub IsOpen-first : (known : Known) (all : Ahead) → IsOpen known all no_settings all
IsOpen-first known all = record { whole = refl; faults = refl; taken = refl; left = refl }

-- a row of the settings in front of others
pub head_rows-cons : (row : Row) (rest : List Row) → is_heading row ≡ true → head_rows (row ∷ rest) ≡ row ∷ head_rows rest
head_rows-cons row rest e =
    let more : 1 + position_or_len (λ r. not (is_heading r)) rest ≡ suc (position_or_len (λ r. not (is_heading r)) rest) = omega arith in rw (e, more) refl

body_rows-cons : (row : Row) (rest : List Row) → is_heading row ≡ true → body_rows (row ∷ rest) ≡ body_rows rest
body_rows-cons row rest e = ap (λ (head : List Row). drop (length head) (row ∷ rest)) (head_rows-cons row rest e)

-- a good row more is taken
pub IsOpen-more : (known : Known) (all : Ahead) (head : Head) (rows : Ahead) (row : Row) → IsNextHeading rows.left row → heading_fault known head row ≡ None
    → IsOpen known all head rows → IsOpen known all (with_heading known head row) (record { taken = rows.taken + 1; left = drop 1 rows.left })
IsOpen-more known all head rows row next good so_far = by rows.left refl
  where
    by : (left : List Row) → rows.left ≡ left → IsOpen known all (with_heading known head row) (record { taken = rows.taken + 1; left = drop 1 rows.left })
    by [] e = let found = rw e at next.next in cc found
    by (first ∷ rest) e =
        let is : first ≡ row = let found = rw e at next.next in cc found in
        let heading : is_heading first ≡ true = rw is next.heading in
        let fault : heading_fault known head first ≡ None = rw is good in
        rw (e, ← is) record {
          whole = so_far.whole ∙ rw (e, head_rows-cons first rest heading) refl;
          faults = so_far.faults ∙ rw (e, head_rows-cons first rest heading, fault) refl;
          taken = let before = rw e at so_far.taken in omega (arith, before, ap length (head_rows-cons first rest heading));
          left = so_far.left ∙ rw (e, body_rows-cons first rest heading) refl;
        }

-- the next row breaks a rule
pub IsOpen-bad : (known : Known) (all : Ahead) (head : Head) (rows : Ahead) (row : Row) (reason : Reason) → IsNextHeading rows.left row
    → heading_fault known head row ≡ Some reason → IsOpen known all head rows
    → first_fault (all.taken + 1) (heading_faults known no_settings (head_rows all.left)) ≡ Some (record { row = rows.taken + 1; reason = reason })
IsOpen-bad known all head rows row reason next bad so_far = by rows.left refl
  where
    by : (left : List Row) → rows.left ≡ left
        → first_fault (all.taken + 1) (heading_faults known no_settings (head_rows all.left)) ≡ Some (record { row = rows.taken + 1; reason = reason })
    by [] e = let found = rw e at next.next in cc found
    by (first ∷ rest) e =
        let is : first ≡ row = let found = rw e at next.next in cc found in
        let heading : is_heading first ≡ true = rw is next.heading in
        let fault : heading_fault known head first ≡ Some reason = rw is bad in
        so_far.faults ∙ rw (e, head_rows-cons first rest heading, fault) refl

-- no row of the settings is left
pub IsOpen-end : (known : Known) (all : Ahead) (head : Head) (rows : Ahead) → head_rows rows.left ≡ [] → IsOpen known all head rows → HasHead known all rows head
IsOpen-end known all head rows none so_far = record {
  whole = sym (so_far.whole ∙ rw none refl);
  good = so_far.faults ∙ rw none refl;
  taken = omega (arith, so_far.taken, ap length none);
  left = sym (so_far.left ∙ rw none refl);
}

-- the answer to a refused row tells its fault
pub Tells-misread : (fault : Option Fault) (broken : Option Reason) (row : ℕ) (refusal : Refusal) → RefusedBy broken refusal
    → ((reason : Reason) → broken ≡ Some reason → fault ≡ Some (record { row = row; reason = reason })) → Tells fault (misread_at row refusal)
Tells-misread fault broken row NoMemory refused bad = tt
Tells-misread fault broken row (Breaks reason) refused bad = bad reason refused
