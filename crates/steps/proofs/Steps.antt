-- A step put together, on plain variables. Assumes nothing.
use mathlib.Core.Path.{◌≡◌}
use mathlib.Core.Bool.{Bool}
use Prim.Native.Nat.{ℕ}
use Rattle.steps.specs.declared.Step.{Step}

-- the addresses are known otherwise
pub told : (p q c d e f : ℕ) (r w i a s : Bool) (x y : ℕ) → p ≡ q → c ≡ d → e ≡ f
    → ◌≡◌ {A = Step}
    (record {
      pc = p;
      cpuaddress = c;
      dmaaddress = e;
      cpureads = r;
      cpuwrites = w;
      interrupt = i;
      dmaactive =
          a;
      dmawrites = s;
      cpudata = x;
      dmadata = y;
    })
    (record {
      pc = q;
      cpuaddress = d;
      dmaaddress = f;
      cpureads = r;
      cpuwrites = w;
      interrupt = i;
      dmaactive =
          a;
      dmawrites = s;
      cpudata = x;
      dmadata = y;
    })
told p q c d e f r w i a s x y ep ec ee = simp (ep, ec, ee)
