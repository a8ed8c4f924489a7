-- The checker proves each function over the reader by itself, from its contract; no function here has a proof file. So what stands here is what is
-- promised (`Promise`), and the first steps of document 01's marked case 1 (`Example`).
pub mod Promise
pub mod Example
