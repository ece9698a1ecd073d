-- Laws of rows, over every list of columns. Assumes nothing.
use mathlib.Core.Path.{◌≡◌, refl, sym, ap, ◌∙◌, subst}
use mathlib.Core.Logic.{◌⊎◌, inl, inr}
use Prim.Native.Nat.{ℕ, suc, ◌+◌, ◌-◌, ◌*◌, ◌≤◌, ◌<◌}
use native.Mathlib.Nat.{mul-add, mul-suc, mul-le-mul_left}
use native.Mathlib.Omega.{arith}
use mathlib.Core.List.{List, [], ◌∷◌, ◌++◌}
use lib.ListN.{length}
use Rattle.le.specs.Mem.{read, write}
use Rattle.rules.proofs.Fields.{length_read, read_add}
use Rattle.le.proofs.Lens.{length-write, read_apart, read_same, read_moved}
use Rattle.tables.specs.Table.{Col, off, row, put_row, close_up}

-- row i after bytes were written into it
unfoldable pub over : List Col → List (List ℕ) → List ℕ → ℕ → List (List ℕ)
over [] xs mem i = []
over (c ∷ cs) [] mem i = row (c ∷ cs) mem i
over (c ∷ cs) (x ∷ xs) mem i = (x ++ read mem (off c i + length x) (c.width - length x)) ∷ over cs xs mem i

-- ---- where columns of n cells stand

-- each begins at or past e
abbrev pub Above : ℕ → List Col → Type 0
Above e [] = 0 ≤ 0
Above e (c ∷ cs) = (e ≤ c.base) × Above e cs

-- each ends at or before e
abbrev pub Beneath : ℕ → List Col → ℕ → Type 0
Beneath n [] e = 0 ≤ 0
Beneath n (c ∷ cs) e = (off c n ≤ e) × Beneath n cs e

-- one behind the other, from e on
abbrev pub Behind : ℕ → ℕ → List Col → Type 0
Behind n e [] = 0 ≤ 0
Behind n e (c ∷ cs) = (e ≤ c.base) × Behind n (off c n) cs

-- what is written fits its cells
abbrev pub Fit : List Col → List (List ℕ) → Type 0
Fit [] xs = 0 ≤ 0
Fit (c ∷ cs) [] = 0 ≤ 0
Fit (c ∷ cs) (x ∷ xs) = (length x ≤ c.width) × Fit cs xs

-- ---- cells: products with the width

times : (w a b : ℕ) → a ≤ b → w * a ≤ w * b
times w a b h = mul-le-mul_left w h

-- a cell ends where the next begins, or before
pub cell_end : (c : Col) (i j : ℕ) → i < j → off c i + c.width ≤ off c j
cell_end c i j h = omega (arith, mul-suc c.width i, times c.width (suc i) j h)

split : (w k j : ℕ) → k ≤ j → w * k + w * (j - k) ≡ w * j
split w k j h =
    let e : k + (j - k) ≡ j = omega arith in
    sym (mul-add w k (j - k)) ∙ ap (λ (x : ℕ). w * x) e

-- ---- columns one behind the other

above_less : (d e : ℕ) (cs : List Col) → d ≤ e → Above e cs → Above d cs
above_less d e [] h a = a
above_less d e (c ∷ cs) h a = (let b = a.0 in omega arith, above_less d e cs h a.1)

behind_above : (n e : ℕ) (cs : List Col) → Behind n e cs → Above e cs
behind_above n e [] b = b
behind_above n e (c ∷ cs) b = (b.0, above_less e (off c n) cs (let h = b.0 in omega arith) (behind_above n (off c n) cs b.1))

-- ---- lengths

pub length_put_row : (cs : List Col) (xs : List (List ℕ)) (mem : List ℕ) (i : ℕ) → length (put_row cs xs mem i) ≡ length mem
unfolding put_row
length_put_row [] xs mem i = refl
length_put_row (c ∷ cs) [] mem i = refl
length_put_row (c ∷ cs) (x ∷ xs) mem i = length_put_row cs xs (write mem (off c i) x) i ∙ length-write mem (off c i) x

pub length_close_up : (cs : List Col) (mem : List ℕ) (k m : ℕ) → length (close_up cs mem k m) ≡ length mem
unfolding close_up
length_close_up [] mem k m = refl
length_close_up (c ∷ cs) mem k m = length_close_up cs (write mem (off c k) (read mem (off c (k + 1)) (c.width * m))) k m ∙ length-write mem (off c k) (read mem (off c (k + 1)) (c.width * m))

-- ---- what lies below the columns is kept, and what lies above

pub close_below : (cs : List Col) (mem : List ℕ) (k m e q w : ℕ) → Above e cs → q + w ≤ e → read (close_up cs mem k m) q w ≡ read mem q w
unfolding close_up
close_below [] mem k m e q w a h = refl
close_below (c ∷ cs) mem k m e q w a h =
    let b = a.0 in
    close_below cs _ k m e q w a.1 h
    ∙ read_apart mem (off c k) (read mem (off c (k + 1)) (c.width * m)) (c.width * m) q w (length_read mem (off c (k + 1)) (c.width * m)) (inl (omega arith))

pub put_below : (cs : List Col) (xs : List (List ℕ)) (mem : List ℕ) (i e q w : ℕ) → Above e cs → q + w ≤ e → read (put_row cs xs mem i) q w ≡ read mem q w
unfolding put_row
put_below [] xs mem i e q w a h = refl
put_below (c ∷ cs) [] mem i e q w a h = refl
put_below (c ∷ cs) (x ∷ xs) mem i e q w a h =
    let b = a.0 in
    put_below cs xs _ i e q w a.1 h ∙ read_apart mem (off c i) x (length x) q w refl (inl (omega arith))

-- a write below the columns changes no row
row_kept : (cs : List Col) (mem : List ℕ) (o : ℕ) (bs : List ℕ) (e j : ℕ) → Above e cs → o + length bs ≤ e → row cs (write mem o bs) j ≡ row cs mem j
unfolding row
row_kept [] mem o bs e j a h = refl
row_kept (c ∷ cs) mem o bs e j a h =
    let b = a.0 in
    λ t. read_apart mem o bs (length bs) (off c j) c.width refl (inr (omega arith)) t ∷ row_kept cs mem o bs e j a.1 h t

-- ---- two tables, one above the other

-- rows of the upper one stay where the lower one is written
pub upper_kept : (n : ℕ) (cs ds : List Col) (xs : List (List ℕ)) (mem : List ℕ) (i e j : ℕ) → i < n → Beneath n cs e → Above e ds → Fit cs xs → row ds (put_row cs xs mem i) j ≡ row ds mem j
unfolding put_row
upper_kept n [] ds xs mem i e j l b a f = refl
upper_kept n (c ∷ cs) ds [] mem i e j l b a f = refl
upper_kept n (c ∷ cs) ds (x ∷ xs) mem i e j l b a f =
    let end = b.0 in
    let fit = f.0 in
    upper_kept n cs ds xs (write mem (off c i) x) i e j l b.1 a f.1
    ∙ row_kept ds mem (off c i) x e j a (omega (arith, cell_end c i n l))

-- rows of the lower one stay where the upper one is written
pub lower_kept : (n : ℕ) (cs ds : List Col) (xs : List (List ℕ)) (mem : List ℕ) (i e j : ℕ) → j < n → Beneath n cs e → Above e ds → row cs (put_row ds xs mem i) j ≡ row cs mem j
unfolding row
lower_kept n [] ds xs mem i e j l b a = refl
lower_kept n (c ∷ cs) ds xs mem i e j l b a =
    let end = b.0 in
    λ t. put_below ds xs mem i e (off c j) c.width a (omega (arith, cell_end c j n l)) t ∷ lower_kept n cs ds xs mem i e j l b.1 a t

-- rows of the lower one, where the bytes below e are as they were
pub row_low : (n : ℕ) (cs : List Col) (m' mem : List ℕ) (j e : ℕ) → j < n → Beneath n cs e → ((q w : ℕ) → q + w ≤ e → read m' q w ≡ read mem q w) → row cs m' j ≡ row cs mem j
unfolding row
row_low n [] m' mem j e l b low = refl
row_low n (c ∷ cs) m' mem j e l b low =
    let end = b.0 in
    λ t. low (off c j) c.width (omega (arith, cell_end c j n l)) t ∷ row_low n cs m' mem j e l b.1 low t

pub over_low : (n : ℕ) (cs : List Col) (xs : List (List ℕ)) (m' mem : List ℕ) (j e : ℕ) → j < n → Beneath n cs e → Fit cs xs
    → ((q w : ℕ) → q + w ≤ e → read m' q w ≡ read mem q w) → over cs xs m' j ≡ over cs xs mem j
unfolding over
over_low n [] xs m' mem j e l b f low = refl
over_low n (c ∷ cs) [] m' mem j e l b f low = row_low n (c ∷ cs) m' mem j e l b low
over_low n (c ∷ cs) (x ∷ xs) m' mem j e l b f low =
    let end = b.0 in
    let fit = f.0 in
    λ t. (x ++ low (off c j + length x) (c.width - length x) (omega (arith, cell_end c j n l)) t) ∷ over_low n cs xs m' mem j e l b.1 f.1 low t

-- ---- closing up

module _ (n k m : ℕ) (fits : k + 1 + m ≤ n) where
  -- how far what closing up one column writes goes
  reach : (c : Col) (mem : List ℕ) → off c k + length (read mem (off c (k + 1)) (c.width * m)) ≤ off c n
  reach c mem =
      omega (arith, length_read mem (off c (k + 1)) (c.width * m), mul-add c.width k m, times c.width (k + m) n (omega arith))

  pub close_low : (cs : List Col) (mem : List ℕ) (j e : ℕ) → Behind n e cs → j < k → row cs (close_up cs mem k m) j ≡ row cs mem j
  unfolding row close_up
  close_low [] mem j e o h = refl
  close_low (c ∷ cs) mem j e o h =
      let l : ℕ = c.width * m in
      let bs : List ℕ = read mem (off c (k + 1)) l in
      let mem' : List ℕ = write mem (off c k) bs in
      let head : read (close_up cs mem' k m) (off c j) c.width ≡ read mem (off c j) c.width =
      close_below cs mem' k m (off c n) (off c j) c.width (behind_above n (off c n) cs o.1) (cell_end c j n (omega arith))
      ∙ read_apart mem (off c k) bs l (off c j) c.width (length_read mem (off c (k + 1)) l) (inl (cell_end c j k h)) in
      let tail : row cs (close_up cs mem' k m) j ≡ row cs mem j =
      close_low cs mem' j (off c n) o.1 h ∙ row_kept cs mem (off c k) bs (off c n) j (behind_above n (off c n) cs o.1) (reach c mem) in
      λ t. head t ∷ tail t

  pub close_high : (cs : List Col) (mem : List ℕ) (j s : ℕ) → Behind n s cs → Beneath n cs (length mem) → k ≤ j → j < k + m → row cs (close_up cs mem k m) j ≡ row cs mem (j + 1)
  unfolding row close_up
  close_high [] mem j s o w h g = refl
  close_high (c ∷ cs) mem j s o w h g =
      let l : ℕ = c.width * m in
      let bs : List ℕ = read mem (off c (k + 1)) l in
      let mem' : List ℕ = write mem (off c k) bs in
      let in' = w.0 in
      let d : ℕ = c.width * (j - k) in
      let e : off c k + d ≡ off c j = omega (arith, split c.width k j h) in
      let f : off c (k + 1) + d ≡ off c (j + 1) = omega (arith, split c.width k j h, mul-add c.width k 1, mul-add c.width j 1) in
      let moved : read mem' (off c k + d) c.width ≡ read mem (off c (k + 1) + d) c.width =
      read_moved mem mem (off c k) (off c (k + 1)) l d c.width
      (omega (arith, mul-add c.width k m, times c.width (k + m) n (omega arith)))
      (omega (arith, mul-suc c.width (j - k), times c.width (suc (j - k)) m (omega arith))) in
      let here : read mem' (off c j) c.width ≡ read mem (off c (j + 1)) c.width =
      subst (λ (q : ℕ). read mem' q c.width ≡ read mem (off c (j + 1)) c.width) e
      (subst (λ (q : ℕ). read mem' (off c k + d) c.width ≡ read mem q c.width) f moved) in
      let head : read (close_up cs mem' k m) (off c j) c.width ≡ read mem (off c (j + 1)) c.width =
      close_below cs mem' k m (off c n) (off c j) c.width (behind_above n (off c n) cs o.1) (cell_end c j n (omega arith)) ∙ here in
      let tail : row cs (close_up cs mem' k m) j ≡ row cs mem (j + 1) =
      close_high cs mem' j (off c n) o.1 (beneath_same cs w.1 (sym (length-write mem (off c k) bs))) h g
      ∙ row_kept cs mem (off c k) bs (off c n) (j + 1) (behind_above n (off c n) cs o.1) (reach c mem) in
      λ t. head t ∷ tail t
    where
      beneath_same : (ds : List Col) {a b : ℕ} → Beneath n ds a → a ≡ b → Beneath n ds b
      beneath_same ds h e = subst (λ (x : ℕ). Beneath n ds x) e h

-- ---- writing a row

-- a cell that a write within another cell of the column keeps
cell_kept : (c : Col) (mem x : List ℕ) (i j : ℕ) → length x ≤ c.width → (i < j) ⊎ (j < i) → read (write mem (off c i) x) (off c j) c.width ≡ read mem (off c j) c.width
cell_kept c mem x i j l (inl h) = read_apart mem (off c i) x (length x) (off c j) c.width refl (inr (omega (arith, cell_end c i j h)))
cell_kept c mem x i j l (inr h) = read_apart mem (off c i) x (length x) (off c j) c.width refl (inl (cell_end c j i h))

-- a cell of which the beginning is written
cell_over : (c : Col) (mem x : List ℕ) (i : ℕ) → length x ≤ c.width → off c i + c.width ≤ length mem
    → read (write mem (off c i) x) (off c i) c.width ≡ x ++ read mem (off c i + length x) (c.width - length x)
cell_over c mem x i l h =
    let e : c.width ≡ length x + (c.width - length x) = omega arith in
    let mem' : List ℕ = write mem (off c i) x in
    let front : read mem' (off c i) (length x) ≡ x = read_same mem (off c i) x (length x) refl (omega arith) in
    let rest : read mem' (off c i + length x) (c.width - length x) ≡ read mem (off c i + length x) (c.width - length x) =
    read_apart mem (off c i) x (length x) (off c i + length x) (c.width - length x) refl (inr (omega arith)) in
    ap (read mem' (off c i)) e ∙ read_add mem' (off c i) (length x) (c.width - length x) ∙ (λ t. front t ++ rest t)

module _ (n i : ℕ) (below : i < n) where
  put_reach : (c : Col) (x : List ℕ) → length x ≤ c.width → off c i + length x ≤ off c n
  put_reach c x l = omega (arith, cell_end c i n below)

  pub put_other : (cs : List Col) (xs : List (List ℕ)) (mem : List ℕ) (j s : ℕ) → Behind n s cs → Fit cs xs → j < n → (i < j) ⊎ (j < i) → row cs (put_row cs xs mem i) j ≡ row cs mem j
  unfolding row put_row
  put_other [] xs mem j s o f h d = refl
  put_other (c ∷ cs) [] mem j s o f h d = refl
  put_other (c ∷ cs) (x ∷ xs) mem j s o f h d =
      let mem' : List ℕ = write mem (off c i) x in
      let head : read (put_row cs xs mem' i) (off c j) c.width ≡ read mem (off c j) c.width =
      put_below cs xs mem' i (off c n) (off c j) c.width (behind_above n (off c n) cs o.1) (cell_end c j n h) ∙ cell_kept c mem x i j f.0 d in
      let tail : row cs (put_row cs xs mem' i) j ≡ row cs mem j =
      put_other cs xs mem' j (off c n) o.1 f.1 h d ∙ row_kept cs mem (off c i) x (off c n) j (behind_above n (off c n) cs o.1) (put_reach c x f.0) in
      λ t. head t ∷ tail t

  -- the rest of the cells above a column stay
  over_kept : (cs : List Col) (xs : List (List ℕ)) (mem : List ℕ) (o : ℕ) (bs : List ℕ) (e : ℕ) → Above e cs → o + length bs ≤ e → over cs xs (write mem o bs) i ≡ over cs xs mem i
  unfolding over
  over_kept [] xs mem o bs e a h = refl
  over_kept (c ∷ cs) [] mem o bs e a h = row_kept (c ∷ cs) mem o bs e i a h
  over_kept (c ∷ cs) (x ∷ xs) mem o bs e a h =
      let b = a.0 in
      λ t. (x ++ read_apart mem o bs (length bs) (off c i + length x) (c.width - length x) refl (inr (omega arith)) t) ∷ over_kept cs xs mem o bs e a.1 h t

  pub put_same : (cs : List Col) (xs : List (List ℕ)) (mem : List ℕ) (s : ℕ) → Behind n s cs → Beneath n cs (length mem) → Fit cs xs → row cs (put_row cs xs mem i) i ≡ over cs xs mem i
  unfolding row put_row over
  put_same [] xs mem s o w f = refl
  put_same (c ∷ cs) [] mem s o w f = refl
  put_same (c ∷ cs) (x ∷ xs) mem s o w f =
      let mem' : List ℕ = write mem (off c i) x in
      let in' = w.0 in
      let head : read (put_row cs xs mem' i) (off c i) c.width ≡ x ++ read mem (off c i + length x) (c.width - length x) =
      put_below cs xs mem' i (off c n) (off c i) c.width (behind_above n (off c n) cs o.1) (cell_end c i n below) ∙ cell_over c mem x i f.0 (omega (arith, cell_end c i n below)) in
      let tail : row cs (put_row cs xs mem' i) i ≡ over cs xs mem i =
      put_same cs xs mem' (off c n) o.1 (subst (λ (z : ℕ). Beneath n cs z) (sym (length-write mem (off c i) x)) w.1) f.1
      ∙ over_kept cs xs mem (off c i) x (off c n) (behind_above n (off c n) cs o.1) (put_reach c x f.0) in
      λ t. head t ∷ tail t
