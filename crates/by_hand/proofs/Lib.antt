-- Nothing here speaks of any other crate. `Structs`, `Results`: the types that the walks take. `Borrows`, `Calls`: steps of a walk, and its end.
-- Then a walk for each form of a function:
--     `Looked`         fn f(p: &P) -> R { g(*p) }
--     `PassedOn`       fn f(p: &P, out: &mut [u8]) -> R { g(*p, out) }
--     `Renewed`        fn f(p: &mut P) { *p = g(*p); }
--     `InPlace`        fn f(p: &mut P, input: &[u8]) -> R { let out = g(*p, input); *p = out.first; out.second }
--     `HandedBack`     fn g(p: P, input: &[u8]) -> S { let mut q = p; let second = f(&mut q, input); S { first: q, second } }
-- (`Forms`: what the last two share.)
pub mod Structs
pub mod Results
pub mod Borrows
pub mod Calls
pub mod Looked
pub mod PassedOn
pub mod Renewed
pub mod Forms
pub mod InPlace
pub mod HandedBack
