-- The text of an answer, by what it tells.
use Rattle.std.specs.Prelude.{ℕ, List, [], ◌∷◌, ◌++◌}
use Rattle.std.specs.List.{flat_map}
use Rattle.rules.specs.Bytes.{ascii}
use Rattle.rules.specs.Session.{space, decimal, numbers, joined, text_of, values, shown}
use Rattle.call_form.specs.Form.{Told}

-- numbers, each with a space before it (R152)
unfoldable pub spaced : List ℕ → List ℕ
spaced ns = flat_map (λ n. space ∷ decimal n) ns

-- code, and so many values (R139, R140, R141, R144)
unfoldable pub values_text : ℕ → Told → List ℕ
values_text k t = text_of (t.code ∷ (shown k (values t.answer) ++ []))

-- code, index, count (R138, R144)
unfoldable pub count_text : Told → List ℕ
count_text t = text_of (t.code ∷ (shown 1 (values t.answer) ++ (t.count ∷ [])))

-- `r`, tag, number (R141, R143)
unfoldable pub backend_text : ℕ → ℕ → List ℕ
backend_text tag number = joined (ascii "r" ∷ numbers (tag ∷ number ∷ []))
