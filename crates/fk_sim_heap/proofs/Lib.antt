-- what the store's heap answers
pub mod Hired
-- one request
pub mod Requests
-- a round of requests
pub mod Rounds
-- rounds by hand
pub mod Examples
