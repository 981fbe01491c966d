-- What follows from a clause on an absent value, and from one on a `Result` whose value was taken by `ok`.
use Rattle.std.proofs.Common.{◌≡◌, Option, Some, None, IfNone, Result, Ok, Err, IfOk, subst, sym}
use Rattle.std.specs.Result.{result_ok}

pub IfNone-weaker : {T P Q : Type 0} (r : Option T) → (P → Q) → IfNone r P → IfNone r Q
IfNone-weaker None f h = f h
IfNone-weaker (Some x) f h = h

pub Some-one : {T : Type 0} {x y : T} → Some x ≡ Some y → x ≡ y
Some-one e = cc

pub ok_holds : {T E : Type 0} (r : Result T E) (P : T → Type 0) (x : T) → Some x ≡ result_ok r → IfOk r P → P x
ok_holds (Ok y) P x e h = subst P (sym (Some-one e)) h
ok_holds (Err y) P x e h = absurd cc

pub none_is : {T P : Type 0} (r : Option T) → P → IfNone r P
none_is None p = p
none_is (Some x) p = tt
