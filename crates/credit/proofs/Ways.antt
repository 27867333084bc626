-- What the credit by value says of the lent one: a refusal handed on, and the record stored.
-- Assumes nothing.
use Rattle.std.proofs.Common.{ℕ, ◌≡◌, Result, Ok, Err, IsErrAnd}
use Rattle.laws.proofs.Tests.{by_test}
use Rattle.channel.specs.declared.Record.{Record}
use Rattle.channel.specs.declared.Refusal.{Refusal}
use Rattle.credit.specs.Credit.{fits, credit_answer, credit_record, credited}

module _ (r : Record) (add : ℕ) where
  pub handed_on : {k : Refusal} (x : Result (Unit {0}) Refusal) → IsErrAnd x (λ e. e ≡ k) → Err k ≡ credited r add → (x ≡ credit_answer r add) × (r ≡ credit_record r add)
  unfolding credited credit_answer credit_record
  handed_on (Ok u) e z = absurd e
  handed_on (Err j) e z =
      by_test (fits r add)
      (λ t. absurd (let y : Err _ ≡ Ok _ = rw t at z in cc))
      (λ t. let y : Err _ ≡ Err Refusal.Credit = rw t at z in let q : j ≡ Refusal.Credit = cc in (rw (t, q), rw t))

  pub stored : {s : Record} → Ok s ≡ credited r add → (Ok tt ≡ credit_answer r add) × (s ≡ credit_record r add)
  unfolding credited credit_answer credit_record
  stored z =
      by_test (fits r add)
      (λ t. let y : Ok _ ≡ Ok _ = rw t at z in (rw t, rw t cc))
      (λ t. absurd (let y : Ok _ ≡ Err _ = rw t at z in cc))
