-- The rules of a proof as bytes. The table of rules and one step's head (`Kind`, `Table`, `Head`); the steps of a derivation (`Spelled`, `Steps`);
-- their reading (`Shape`, `Reading`); and when it is refused (`Premises`, `Refusals`).
pub mod Kind
pub mod Table
pub mod Head
pub mod Spelled
pub mod Steps
pub mod Shape
pub mod Reading
pub mod Premises
pub mod Refusals
